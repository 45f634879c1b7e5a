-- Looking past stars, one after the other.
use Rattle.std.proofs.Common.{◌≡◌, ℕ, zero, suc, ◌-◌, ◌<◌, refl, arith, cond, [], ◌∷◌}
use Rattle.grammar.specs.Rule.{has}
use Rattle.c_expr.specs.declared.word.Word.TheVariants as w
use Rattle.c_expr.specs.Words.{class}
use Rattle.c_expr.specs.Settling.{behind_stars}

one_less : (n : ℕ) → suc n - 1 ≡ n
one_less n = omega arith

pub stars_turn : (f : ℕ → ℕ) (n i : ℕ) → zero < n → behind_stars f n i ≡ cond (has (class w.Star ∷ []) (f i)) (behind_stars f (n - 1) (suc i)) i
unfolding behind_stars
stars_turn f zero i h = absurd (omega arith)
stars_turn f (suc n) i h = rw (one_less n) refl

pub stars_turned : (f : ℕ → ℕ) (n i : ℕ) → n ≡ zero → behind_stars f n i ≡ i
unfolding behind_stars
stars_turned f n i h = rw h refl
