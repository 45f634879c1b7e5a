use Rattle.std.proofs.Common.{◌≡◌, ◌∙◌, List, map, sym, ap, subst, refl}
use Rattle.meta_bind.specs.declared.bound.Bound.{Bound}
use Rattle.meta_bind.specs.Bounds.{seen, NamesAscend}
use Rattle.meta_bind.proofs.Names.{AgreeAlong, agree_along, agree_at, agree_end}
use Rattle.meta_bind.proofs.binding.Binding.agrees.Goals as goal

pub returns-then-not-is_agreed : goal.returns-then-not-is_agreed
returns-then-not-is_agreed c =
    let items : map seen c.as_slice-bound-items.result.now ≡ c.args.self.now = ap (map seen) c.as_slice-bound-items.ensures ∙ c.self.view_is in
    let N : List Bound → Type 0 = NamesAscend in
    let P : List Bound → Type 0 = λ bs. AgreeAlong bs c.args.other.now in
    let same = agree_along c.args.self.now c.args.other.now (subst N c.self.view_is c.self.invariant) in (
      λ h. absurd cc,
      λ a. let left = c.loop-bound.invariant.0 (subst P (sym items) (same.1 a)) in
          sym c.if-not-is_agreed.true ∙ c.is_agreed.ensures.1 (agree_at seen _ c.args.other.now _ c.bound-item.result c.loop-bound-test.true c.bound-item.is left),
    )

pub returns : goal.returns
returns c =
    let items : map seen c.as_slice-bound-items.result.now ≡ c.args.self.now = ap (map seen) c.as_slice-bound-items.ensures ∙ c.self.view_is in
    let N : List Bound → Type 0 = NamesAscend in
    let P : List Bound → Type 0 = λ bs. AgreeAlong bs c.args.other.now in
    let same = agree_along c.args.self.now c.args.other.now (subst N c.self.view_is c.self.invariant) in
    (λ h. same.0 (subst P items (c.loop-bound.invariant.1 (agree_end seen _ c.args.other.now _ c.loop-bound-test.false))), λ a. refl)
