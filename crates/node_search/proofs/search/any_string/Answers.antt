use Rattle.std.proofs.Common.{◌≡◌, ◌∙◌, sym, inl, inr, true, false, Bool, IsTrue}
use Rattle.node_pool.specs.Spots.{seen}
use Rattle.node_match.proofs.Sets.{adds_as, adds_none}
use Rattle.node_match.proofs.Inversion.{any_string, any_strings}
use Rattle.node_search.proofs.search.any_string.Goals as goal

untrue : {A : Type 0} (r : Bool) → (A → IsTrue r) → r ≡ false → A → ⊥
untrue r f is a = let e : false ≡ true = sym is ∙ f a in cc

pub returns-then-is_string : goal.returns-then-is_string
returns-then-is_string c =
    adds_as _ _ _ _ c.in_ok-put_trail.ensures (λ b. any_string c.args.known.names.now c.args.pattern.now (seen c.args.spot) c.args.trail.now c.requires (inl (c.is_string.ensures.0 c.if-is_string.true)) _ b c.in_ok-copy.ensures)

pub returns-in_ok-put_trail-2 : goal.returns-in_ok-put_trail-2
returns-in_ok-put_trail-2 c =
    adds_as _ _ _ _ c.in_ok-put_trail-2.ensures (λ b. any_string c.args.known.names.now c.args.pattern.now (seen c.args.spot) c.args.trail.now c.requires (inr (c.holds_string.ensures.0 c.if-holds_string.true)) _ b c.in_ok-copy-2.ensures)

pub returns-else-holds_string : goal.returns-else-holds_string
returns-else-holds_string c =
    adds_none _ _ (λ b x. elim (any_strings c.args.known.names.now c.args.pattern.now (seen c.args.spot) c.args.trail.now c.requires b x) [
      | inl is ↦ untrue _ c.is_string.ensures.1 c.if-is_string.false is
      | inr h ↦ untrue _ c.holds_string.ensures.1 c.if-holds_string.false h
    ])
