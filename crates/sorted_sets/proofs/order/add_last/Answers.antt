use Rattle.std.proofs.Common.{inr, sym, ◌∙◌}
use Rattle.sorted_sets.proofs.order.add_last.Goals as goal

pub returns : goal.returns
returns g c = inr ((λ h. let e = sym (c.is_last.ensures.1 (h.0, c.as_slice.ensures.value ∙ h.1)) ∙ c.if-is_last.false in cc), c.in_ok-push.ensures.items)
