use Rattle.std.proofs.Common.{List, map, ◌∙◌, subst, sym, ap}
use Rattle.meta_bind.specs.declared.bound.Bound.{Bound}
use Rattle.meta_bind.specs.declared.join.Keep.TheVariants.{First}
use Rattle.meta_bind.specs.Bounds.{seen_held, NamesAscend}
use Rattle.meta_bind.proofs.Joins.{ascends_joined}
use Rattle.meta_bind.proofs.trail.Trail.extend.Goals as goal

pub invariant_of-result : goal.invariant_of-result
invariant_of-result c =
    let P : List Bound → Type 0 = NamesAscend in
    let one = subst P (ap (map seen_held) (sym c.as_slice.ensures.value)) c.self.invariant in
    let two = subst P (ap (map seen_held) (sym c.as_slice-2.ensures.value)) c.other.invariant in
    subst P (sym c.in_ok-held.ensures) (ascends_joined First (map seen_held c.as_slice.result.now) (map seen_held c.as_slice-2.result.now) one two)
