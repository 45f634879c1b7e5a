use Rattle.std.proofs.Common.{◌≡◌, ◌∙◌, List, map, sym, ap, subst, refl}
use Rattle.meta_bind.specs.declared.bound.Bound.{Bound}
use Rattle.meta_bind.specs.Bounds.{seen_held, NamesAscend}
use Rattle.meta_bind.proofs.Names.{AgreeAlong, agree_along, agree_at, agree_end}
use Rattle.meta_bind.proofs.trail.Trail.agrees.Goals as goal

pub returns-then-not-is_agreed : goal.returns-then-not-is_agreed
returns-then-not-is_agreed c =
    let items : map seen_held c.as_slice-one-items.result.now ≡ c.args.self.now = ap (map seen_held) c.as_slice-one-items.ensures.value ∙ c.self.view_is in
    let N : List Bound → Type 0 = NamesAscend in
    let P : List Bound → Type 0 = λ bs. AgreeAlong bs c.args.other.now in
    let same = agree_along c.args.self.now c.args.other.now (subst N c.self.view_is c.self.invariant) in (
      λ h. absurd cc,
      λ a. let left = c.loop-one.invariant.0 (subst P (sym items) (same.1 a)) in
          sym c.if-not-is_agreed.true ∙ c.is_agreed.ensures.1 (agree_at seen_held _ c.args.other.now _ c.one-item.result c.loop-one-test.true c.one-item.is left),
    )

pub returns : goal.returns
returns c =
    let items : map seen_held c.as_slice-one-items.result.now ≡ c.args.self.now = ap (map seen_held) c.as_slice-one-items.ensures.value ∙ c.self.view_is in
    let N : List Bound → Type 0 = NamesAscend in
    let P : List Bound → Type 0 = λ bs. AgreeAlong bs c.args.other.now in
    let same = agree_along c.args.self.now c.args.other.now (subst N c.self.view_is c.self.invariant) in
    (λ h. same.0 (subst P items (c.loop-one.invariant.1 (agree_end seen_held _ c.args.other.now _ c.loop-one-test.false))), λ a. refl)
