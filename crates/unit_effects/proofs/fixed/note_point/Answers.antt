use Rattle.std.proofs.Common.{ap, ◌∙◌}
use Rattle.assignments.specs.Seen.{all_assignments, seen_assignment}
use Rattle.unit_effects.proofs.Noting.{notes_none, notes_more, notes_all}
use Rattle.unit_effects.specs.Fixed as spec
use Rattle.unit_effects.proofs.fixed.note_point.Goals as goal

pub loop-one-init : goal.loop-one-init
loop-one-init c = notes_none c.args.once.now

pub loop-one-preserved : goal.loop-one-preserved
loop-one-preserved c = notes_more seen_assignment spec.occurrences c.as_slice-one-items.result.now c.loop-one.one-index c.one-item.result c.args.once.now c.loop-one.once c.note_targets.new.once c.loop-one-test.true c.one-item.is c.loop-one.invariant c.in_ok-note_targets.ensures

pub returns : goal.returns
returns c = notes_all seen_assignment spec.occurrences c.as_slice-one-items.result.now c.loop-one.one-index _ c.args.once.now c.loop-one.once c.loop-one-test.false (ap all_assignments c.as_slice-one-items.ensures ∙ c.in_ok-list.ensures) c.loop-one.invariant
