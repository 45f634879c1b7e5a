use Rattle.std.proofs.Common.{◌≡◌, ◌∙◌, sym, true, false, Bool, IsTrue}
use Rattle.node_match.proofs.Sets.{adds_as, adds_none}
use Rattle.node_search.proofs.search.held.Goals as goal

untrue : {A : Type 0} (r : Bool) → (A → IsTrue r) → r ≡ false → A → ⊥
untrue r f is a = let e : false ≡ true = sym is ∙ f a in cc

pub returns-in_ok-put_trail : goal.returns-in_ok-put_trail
returns-in_ok-put_trail c = adds_as _ _ _ _ c.in_ok-put_trail.ensures (λ b. (λ e. (c.holds_same.ensures.0 c.if-holds_same.true, sym c.in_ok-copy.ensures ∙ e), λ (h, e). c.in_ok-copy.ensures ∙ e))

pub returns-else-holds_same : goal.returns-else-holds_same
returns-else-holds_same c = adds_none _ _ (λ b (h, e). untrue _ c.holds_same.ensures.1 c.if-holds_same.false h)
