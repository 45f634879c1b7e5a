use Rattle.std.proofs.Common.{◌≡◌, false, take, ap, ◌∙◌}
use Rattle.std.specs.Prelude.{◌||◌}
use Rattle.std.specs.List.{flat_map, list_any}
use Rattle.std.specs.Ordering.{nat_cmp}
use Rattle.std.specs.BTreeSet.{contains}
use Rattle.std.specs.BTreeMap.{is_at}
use Rattle.std.proofs.lemmas.List.{take_all}
use Rattle.assignments.specs.Seen.{seen_assignment, all_assignments}
use Rattle.const_prop.specs.Constants.{numbers_in}
use Rattle.const_prop.specs.Views.{is_in}
use Rattle.const_prop.proofs.Numbers.{numbers_none, numbers_more}
use Rattle.const_prop.proofs.view.target_numbers.Goals as goal

pub loop-one-init : goal.loop-one-init
loop-one-init c = numbers_none c.new-numbers.result

pub loop-one-preserved : goal.loop-one-preserved
loop-one-preserved c =
    numbers_more seen_assignment numbers_in c.as_slice-one-items.result.now c.loop-one.one-index c.one-item.result c.new-numbers.result _ _ c.loop-one-test.true c.one-item.is c.loop-one.invariant c.in_ok-add_numbers.ensures

pub returns : goal.returns
returns c at =
    let none : contains nat_cmp c.new-numbers.result at ≡ false = ap (list_any (is_at (nat_cmp at))) c.new-numbers.ensures.empty in
    let all = all_assignments (take c.loop-one.one-index c.as_slice-one-items.result.now) in
    c.loop-one.invariant at ∙ ap (λ b. b || is_in (flat_map numbers_in all) at) none
    ∙ ap (λ xs. is_in (flat_map numbers_in xs) at) (ap all_assignments (take_all c.loop-one.one-index c.as_slice-one-items.result.now c.loop-one-test.false ∙ c.as_slice-one-items.ensures) ∙ c.in_ok-assignments.ensures)
