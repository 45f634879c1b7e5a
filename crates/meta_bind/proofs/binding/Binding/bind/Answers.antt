use Rattle.std.proofs.Common.{List, map, subst, sym, ap, ◌∙◌}
use Rattle.meta_bind.specs.declared.bound.Bound.{Bound}
use Rattle.meta_bind.specs.Bounds.{seen, NamesAscend, bound_at}
use Rattle.meta_bind.proofs.Lookups.{inserted}
use Rattle.meta_bind.proofs.Names.{ascends-with_bound}
use Rattle.meta_bind.proofs.binding.Binding.bind.Goals as goal

pub invariant_of-self-2 : goal.invariant_of-self-2
invariant_of-self-2 c =
    let old = c.self.inside.bounds in
    let P : List Bound → Type 0 = NamesAscend in
    subst P (sym (inserted seen old _ _ _ c.args.bound _ c.as_slice.ensures c.in_ok-insert.ensures.ok (sym c.as_str.ensures) c.place_of-place.ensures.place))
    (ascends-with_bound (seen c.args.bound) (map seen old) c.self.invariant (ap (λ (bs : List Bound). bound_at c.args.bound.name bs) c.self.view_is ∙ c.requires))
