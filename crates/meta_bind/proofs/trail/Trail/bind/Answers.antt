use Rattle.std.proofs.Common.{List, map, subst, sym, refl, ap, ◌∙◌}
use Rattle.meta_bind.specs.declared.bound.Bound.{Bound}
use Rattle.meta_bind.specs.Bounds.{seen_held, NamesAscend, bound_at}
use Rattle.meta_bind.proofs.Lookups.{inserted}
use Rattle.meta_bind.proofs.Names.{ascends-with_bound}
use Rattle.meta_bind.proofs.trail.Trail.bind.Goals as goal

pub invariant_of-self-2 : goal.invariant_of-self-2
invariant_of-self-2 c =
    let old = c.self.inside.held.items in
    let P : List Bound → Type 0 = NamesAscend in
    subst P (sym (inserted seen_held old _ _ _ c.args.one _ c.as_slice.ensures.value c.in_ok-insert.ensures.items refl c.place_of-place.ensures.place))
    (ascends-with_bound (seen_held c.args.one) (map seen_held old) c.self.invariant (ap (λ (bs : List Bound). bound_at c.args.one.name.now bs) c.self.view_is ∙ c.requires))
