use Rattle.std.proofs.Common.{◌≡◌, ◌++◌, ◌∷◌, [], map, length, ap, ◌∙◌}
use Rattle.std.proofs.lemmas.List.{take_all}
use Rattle.unit_names.specs.Words.{Word}
use Rattle.unit_effects.proofs.Lists.{plain_copy}
use Rattle.unit_effects.specs.Numbering as nums
use Rattle.assignments.specs.Assignments.{assigned_of}
use Rattle.unit_effects.proofs.effects.Tables.effects.Goals as goal

pub loop-point-preserved : goal.loop-point-preserved
loop-point-preserved c = plain_copy (λ p. map (nums.one_assigns c.args.self.now.names.now c.args.self.now.literals.now (nums.hides c.args.entry.now)) (assigned_of c.args.tree.now p)) c.as_slice-point-items.result.now c.loop-point.point-index _ _ _ c.loop-point-test.true c.loop-point.invariant (c.in_ok-push.ensures.ok ∙ ap (λ l. c.loop-point.points ++ l ∷ []) c.in_ok-point.ensures)

pub returns : goal.returns
returns c =
    let literals : c.len-literals.result ≡ length c.args.self.now.literals.now = c.len-literals.ensures in
    let start : c.in_ok-start.field-0 ≡ map (λ (w : Word). nums.number_of c.args.self.now.literals.now (nums.entry_value c.args.entry.now w.text)) c.args.self.now.names.now = c.in_ok-start.ensures in
    let points : c.loop-point.points ≡ map (λ p. map (nums.one_assigns c.args.self.now.names.now c.args.self.now.literals.now (nums.hides c.args.entry.now)) (assigned_of c.args.tree.now p)) c.args.scope.now.graph.points =
    c.loop-point.invariant ∙ ap (map (λ p. map (nums.one_assigns c.args.self.now.names.now c.args.self.now.literals.now (nums.hides c.args.entry.now)) (assigned_of c.args.tree.now p))) (take_all c.loop-point.point-index c.as_slice-point-items.result.now c.loop-point-test.false ∙ c.as_slice-point-items.ensures) in
    λ i. record { literals = literals i; start = start i; points = points i }
