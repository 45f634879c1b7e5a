use Rattle.std.proofs.Common.{◌≡◌, ◌∙◌, List, map, take, sym, ap, subst}
use Rattle.std.proofs.lemmas.List.{take_all}
use Rattle.meta_bind.specs.declared.bound.Bound.{Bound}
use Rattle.meta_bind.specs.Bounds.{seen, seen_held, NamesAscend}
use Rattle.meta_bind.proofs.trail.Trail.of.Goals as goal

pub invariant_of-result : goal.invariant_of-result
invariant_of-result c =
    let P : List Bound → Type 0 = NamesAscend in
    let e : map seen_held c.loop-bound.held.items ≡ c.args.binding.now =
    c.loop-bound.invariant ∙ ap (map seen) (take_all c.loop-bound.bound-index c.bounds-bound-items.result.now c.loop-bound-test.false) ∙ c.bounds-bound-items.ensures.bounds in
    subst P (sym e) c.bounds-bound-items.ensures.ordered
