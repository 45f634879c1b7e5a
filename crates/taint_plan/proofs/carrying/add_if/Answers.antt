use Rattle.std.proofs.Common.{◌≡◌, inl, inr, true, false, sym, ◌∙◌}
use Rattle.flow_reach.proofs.Steps.{as_right}
use Rattle.taint_plan.proofs.carrying.add_if.Goals as goal

pub returns-then-has_range : goal.returns-then-has_range
returns-then-has_range c spans holds from to =
    let is = c.has_range.ensures.0 c.if-has_range.true in
    as_right _ _ _ _ (c.in_ok-add_carry.ensures spans holds from to) (λ over. (is, over), λ h. h.1)

pub returns : goal.returns
returns c spans holds from to = (
  λ h. inl h,
  λ h. elim h [
    | inl a ↦ a
    | inr b ↦ absurd (let e : true ≡ false = sym (c.has_range.ensures.1 b.0) ∙ c.if-has_range.false in cc)
  ],
)
