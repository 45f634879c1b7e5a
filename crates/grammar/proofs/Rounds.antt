-- Rounds of a loop, for the readers of languages.
use Rattle.std.proofs.Common.{◌≡◌, ℕ, zero, suc, ◌-◌, ◌<◌, List, ◌++◌, refl, arith}
use Rattle.std.specs.Prelude.{Option, Some, None}
use Rattle.grammar.specs.Reader.{◌>>=◌, turns}

one_less : (n : ℕ) → suc n - 1 ≡ n
one_less n = omega arith

-- one more round
pub turn : {X : Type 0} (x : X) (F : X → X) (n : ℕ) → zero < n → turns x F n ≡ F (turns x F (n - 1))
turn x F zero h = absurd (omega arith)
turn x F (suc n) h = rw (one_less n) refl

-- and none
pub turned : {X : Type 0} (x : X) (F : X → X) (n : ℕ) → n ≡ zero → turns x F n ≡ x
turned x F n h = rw h refl

-- two parts in a row, and what is made of their nodes
pub made : {A : Type 0} (r : Option (List A × ℕ)) (v : ℕ → Option (List A × ℕ)) (b : ℕ → List A → List A) → ◌>>=◌ {B = List A × ℕ} (◌>>=◌ {B = List A × ℕ} r (λ x. ◌>>=◌ {B = List A × ℕ} (v x.1) (λ y. Some (x.0 ++ y.0, y.1)))) (λ z. Some (b z.1 z.0, z.1)) ≡ ◌>>=◌ {B = List A × ℕ} r (λ x. ◌>>=◌ {B = List A × ℕ} (v x.1) (λ y. Some (b y.1 (x.0 ++ y.0), y.1)))
made None v b = refl
made {A} (Some x) v b = inner (v x.1)
  where
    inner : (q : Option (List A × ℕ)) → ◌>>=◌ {B = List A × ℕ} (◌>>=◌ {B = List A × ℕ} q (λ y. Some (x.0 ++ y.0, y.1))) (λ z. Some (b z.1 z.0, z.1)) ≡ ◌>>=◌ {B = List A × ℕ} q (λ y. Some (b y.1 (x.0 ++ y.0), y.1))
    inner None = refl
    inner (Some y) = refl
