use Rattle.std.proofs.Common.{ap, ◌∙◌, subst, [], ◌∷◌}
use Rattle.std.specs.Prelude.{if◌then◌else◌}
use Rattle.std.specs.List.{flat_map}
use Rattle.std.proofs.lemmas.List.{take_all}
use Rattle.assignments.specs.Seen.{Named, seen_target, all_targets}
use Rattle.unit_names.specs.Names.{is_assigned}
use Rattle.const_prop.specs.Views.{AddsNumbers}
use Rattle.const_prop.proofs.Numbers.{numbers_none, numbers_copied}
use Rattle.const_prop.proofs.view.add_numbers.Goals as goal

pub loop-target-init : goal.loop-target-init
loop-target-init c = numbers_none c.args.numbers.now

pub loop-target-preserved : goal.loop-target-preserved
loop-target-preserved c =
    numbers_copied seen_target (λ (t : Named). if is_assigned t.reach then t.at ∷ [] else []) c.as_slice-target-items.result.now c.loop-target.target-index _ c.args.numbers.now _ _ c.loop-target-test.true c.loop-target.invariant c.in_ok-add_number.ensures

pub returns : goal.returns
returns c =
    subst (λ ts. AddsNumbers c.args.numbers.now (flat_map (λ (t : Named). if is_assigned t.reach then t.at ∷ [] else []) ts) c.loop-target.numbers)
    (ap all_targets (take_all c.loop-target.target-index c.as_slice-target-items.result.now c.loop-target-test.false ∙ c.as_slice-target-items.ensures)) c.loop-target.invariant
