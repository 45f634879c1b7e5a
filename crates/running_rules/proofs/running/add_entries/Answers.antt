use Rattle.std.proofs.Common.{◌+◌, map, drop}
use Rattle.std.proofs.lemmas.List.{drop_all}
use Rattle.meta_bind.proofs.Lookups.{opened}
use Rattle.running_rules.specs.Taking.{said}
use Rattle.running_rules.proofs.Taking.{entries_on, entries_end}
use Rattle.running_rules.proofs.running.add_entries.Goals as goal

pub loop-number-preserved : goal.loop-number-preserved
loop-number-preserved c =
    let i = c.loop-number.number in
    let os = c.args.outcomes.now in
    let o = c.index-outcomes-number.result in
    entries_on c.args.file.now i (map said c.loop-number.entries.items) (map said c.add_entry.new.entries.items) o (drop i os) (drop (i + 1) os) _ c.loop-number.invariant (opened os i o c.loop-number-test.true c.index-outcomes-number.is) c.in_ok-add_entry.ensures

pub returns : goal.returns
returns c = entries_end c.args.file.now c.loop-number.number (map said c.loop-number.entries.items) _ _ c.loop-number.invariant (drop_all c.loop-number.number c.args.outcomes.now c.loop-number-test.false)
