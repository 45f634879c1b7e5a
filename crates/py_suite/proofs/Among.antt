-- Whether a class is among those of some words.
use Rattle.std.proofs.Common.{◌≡◌, ℕ, List, [], ◌∷◌, ◌++◌, refl, Bool, true, false, eqb}
use Rattle.std.specs.Prelude.{◌||◌}
use Rattle.grammar.specs.Rule.{has}

step : (b c e : Bool) → (b || c) ≡ false → (c ≡ false → e ≡ false) → (b || e) ≡ false
step true c e h k = h
step false c e h k = k h

-- none of the classes so far is it, and neither is the next
pub has_more : (xs : List ℕ) (y c : ℕ) → has xs c ≡ false → eqb y c ≡ false → has (xs ++ y ∷ []) c ≡ false
has_more [] y c h e = rw e refl
has_more (x ∷ xs) y c h e = step (eqb x c) (has xs c) (has (xs ++ y ∷ []) c) h (λ k. has_more xs y c k e)
