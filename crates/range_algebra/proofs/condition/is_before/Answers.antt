use Rattle.std.proofs.Common.{refl, sym, ◌∙◌}
use Rattle.range_algebra.proofs.condition.is_before.Goals as goal

pub returns-in-Less : goal.returns-in-Less
returns-in-Less c = (λ e. sym c.order.ensures ∙ c.in-Less.is, λ e. refl)

pub returns-in-Equal : goal.returns-in-Equal
returns-in-Equal c = (λ e. absurd (cc), λ e. (let f = sym c.in-Equal.is ∙ (c.order.ensures ∙ e) in cc))

pub returns-in-Greater : goal.returns-in-Greater
returns-in-Greater c = (λ e. absurd (cc), λ e. (let f = sym c.in-Greater.is ∙ (c.order.ensures ∙ e) in cc))
