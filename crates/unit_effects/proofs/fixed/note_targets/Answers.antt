use Rattle.std.proofs.Common.{ap}
use Rattle.assignments.specs.Seen.{all_targets, seen_value, seen_target}
use Rattle.unit_effects.proofs.Noting.{notes_none, notes_copy, notes_all}
use Rattle.unit_effects.specs.Fixed as spec
use Rattle.unit_effects.proofs.fixed.note_targets.Goals as goal

pub loop-target-init : goal.loop-target-init
loop-target-init c = notes_none c.args.once.now

pub loop-target-preserved : goal.loop-target-preserved
loop-target-preserved c = notes_copy seen_target (spec.occurrence c.args.one.now.manner (seen_value c.args.one.now.value)) c.as_slice-target-items.result.now c.loop-target.target-index _ c.args.once.now c.loop-target.once c.note_target.new.once c.loop-target-test.true c.loop-target.invariant c.in_ok-note_target.ensures

pub returns : goal.returns
returns c = notes_all seen_target (spec.occurrence c.args.one.now.manner (seen_value c.args.one.now.value)) c.as_slice-target-items.result.now c.loop-target.target-index _ c.args.once.now c.loop-target.once c.loop-target-test.false (ap all_targets c.as_slice-target-items.ensures) c.loop-target.invariant
