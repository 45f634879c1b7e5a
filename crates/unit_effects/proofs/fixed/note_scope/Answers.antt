use Rattle.unit_effects.proofs.Noting.{notes_none, notes_plain, notes_done}
use Rattle.unit_effects.specs.Fixed as spec
use Rattle.unit_effects.proofs.fixed.note_scope.Goals as goal

pub loop-point-init : goal.loop-point-init
loop-point-init c = notes_none c.args.once.now

pub loop-point-preserved : goal.loop-point-preserved
loop-point-preserved c = notes_plain (spec.occurrences_at c.args.tree.now) c.as_slice-point-items.result.now c.loop-point.point-index _ c.args.once.now c.loop-point.once c.note_point.new.once c.loop-point-test.true c.loop-point.invariant c.in_ok-note_point.ensures

pub returns : goal.returns
returns c = notes_done (spec.occurrences_at c.args.tree.now) c.as_slice-point-items.result.now c.loop-point.point-index _ c.args.once.now c.loop-point.once c.loop-point-test.false c.as_slice-point-items.ensures c.loop-point.invariant
