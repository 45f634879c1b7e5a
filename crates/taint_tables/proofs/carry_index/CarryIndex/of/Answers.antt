use Rattle.std.proofs.Common.{◌≡◌, ◌↔◌, ◌++◌, List, ap, ◌∙◌, subst, rules}
use Rattle.std.proofs.lemmas.List.Sorted.{IsNonDecreasingBy-from_sort_by_key}
use Rattle.graph_form.specs.Sets.{Among}
use Rattle.graph_form.proofs.Amongs.{same_items}
use Rattle.taint_tables.specs.declared.sets.Carry.{Carry}
use Rattle.taint_tables.proofs.carry_index.CarryIndex.of.Goals as goal

pub invariant_of-result : goal.invariant_of-result
invariant_of-result c = IsNonDecreasingBy-from_sort_by_key (λ (k : Carry). k.range.from) _ c.in_ok-sort_by_key.ensures.sorted (λ a r q k. search rules)

pub returns : goal.returns
returns c =
    let all : c.extend_from_slice.new.self.items ≡ c.args.carries.now = c.in_ok-extend_from_slice.ensures.items ∙ ap (λ xs. xs ++ c.args.carries.now) c.new-sorted.ensures.items in
    let P : List Carry → Type 0 = λ xs. (k : Carry) → Among c.sort_by_key.new.self.items k ↔ Among xs k in
    subst P all (same_items _ _ c.in_ok-sort_by_key.ensures.permutation)
