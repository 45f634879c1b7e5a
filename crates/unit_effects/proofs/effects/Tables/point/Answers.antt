use Rattle.std.proofs.Common.{◌++◌, ◌∷◌, [], ap, ◌∙◌}
use Rattle.assignments.specs.Seen.{all_assignments, seen_assignment}
use Rattle.unit_effects.proofs.Lists.{mapped_item, mapped_all}
use Rattle.unit_effects.specs.Numbering as nums
use Rattle.unit_effects.proofs.effects.Tables.point.Goals as goal

pub loop-one-preserved : goal.loop-one-preserved
loop-one-preserved c = mapped_item seen_assignment (nums.one_assigns c.args.self.now.names.now c.args.self.now.literals.now (nums.hides c.args.entry.now)) c.as_slice-one-items.result.now c.loop-one.one-index c.one-item.result _ _ c.loop-one-test.true c.one-item.is c.loop-one.invariant (c.in_ok-push.ensures.ok ∙ ap (λ l. c.loop-one.nodes ++ l ∷ []) c.in_ok-assigns.ensures)

pub returns : goal.returns
returns c = mapped_all seen_assignment (nums.one_assigns c.args.self.now.names.now c.args.self.now.literals.now (nums.hides c.args.entry.now)) c.as_slice-one-items.result.now c.loop-one.one-index _ _ c.loop-one-test.false (ap all_assignments c.as_slice-one-items.ensures ∙ c.in_ok-assignments.ensures) c.loop-one.invariant
