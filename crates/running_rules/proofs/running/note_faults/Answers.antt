use Rattle.std.proofs.Common.{◌+◌, drop}
use Rattle.std.proofs.lemmas.List.{drop_all}
use Rattle.meta_bind.proofs.Lookups.{opened}
use Rattle.running_rules.specs.Running.{fault_notices}
use Rattle.running_rules.proofs.Members.{flat_step, flat_end}
use Rattle.running_rules.proofs.running.note_faults.Goals as goal

pub loop-outcome-preserved : goal.loop-outcome-preserved
loop-outcome-preserved c =
    let i = c.loop-outcome.outcome-index in
    let os = c.args.outcomes.now in
    let o = c.outcome-item.result in
    flat_step (fault_notices c.args.file.now) c.loop-outcome.notices.items c.note_fault.new.notices.items o (drop i os) (drop (i + 1) os) _ c.loop-outcome.invariant (opened os i o c.loop-outcome-test.true c.outcome-item.is) c.in_ok-note_fault.ensures

pub returns : goal.returns
returns c = flat_end (fault_notices c.args.file.now) c.loop-outcome.notices.items _ _ c.loop-outcome.invariant (drop_all c.loop-outcome.outcome-index c.args.outcomes.now c.loop-outcome-test.false)
