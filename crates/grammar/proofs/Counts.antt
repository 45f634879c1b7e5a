-- How many brackets are open.
use Rattle.std.proofs.Common.{◌≡◌, ◌∙◌, ℕ, zero, suc, pred, ◌<◌, ◌≤◌, List, refl, arith, inl, inr}
use Rattle.std.specs.Prelude.{Bool, true, false, cond, ltb}
use Rattle.grammar.specs.Rule.{has, behind, open_at, smaller, brackets_round}
use Rattle.grammar.proofs.Facts.{decide, ltb_less, less_or_same}

module _ (opens closes : List ℕ) (f : ℕ → ℕ) where
  abbrev pub count : ℕ → ℕ → ℕ
  count = open_at opens closes f

  count_zero : (from : ℕ) → count from zero ≡ zero
  unfolding open_at
  count_zero from = refl

  pub count_step : (from n : ℕ) → from ≤ n → count from (suc n) ≡ behind opens closes (f n) (count from n)
  unfolding open_at
  count_step from n h = rw (past n h) refl
    where
      past : (n : ℕ) → from ≤ n → ltb n from ≡ false
      past n h = grind arith

  pub count_start : (n : ℕ) → count n n ≡ zero
  unfolding open_at
  count_start zero = refl
  count_start (suc n) = rw (ltb_less n (suc n) (omega arith)) refl

  behind_most : (c n : ℕ) → behind opens closes c n ≤ suc n
  behind_most c n = by_case (has opens c) (has closes c)
    where
      same : suc n ≤ suc n
      same = omega arith

      less : pred n ≤ suc n
      less = omega arith

      along : n ≤ suc n
      along = omega arith

      by_case : (u v : Bool) → cond u (suc n) (cond v (pred n) n) ≤ suc n
      by_case true v = same
      by_case false true = less
      by_case false false = along

  behind_least : (c n : ℕ) → n ≤ suc (behind opens closes c n)
  behind_least c n = by_case (has opens c) (has closes c)
    where
      more : n ≤ suc (suc n)
      more = omega arith

      less : n ≤ suc (pred n)
      less = omega arith

      along : n ≤ suc n
      along = omega arith

      by_case : (u v : Bool) → n ≤ suc (cond u (suc n) (cond v (pred n) n))
      by_case true v = more
      by_case false true = less
      by_case false false = along

  pub count_le : (n : ℕ) → count zero n ≤ n
  unfolding open_at
  count_le zero = omega arith
  count_le (suc n) = omega (arith, count_le n, behind_most (f n) (count zero n), count_step zero n (omega arith))

  near : (a b m : ℕ) → a ≤ suc b → b ≤ suc a → smaller a b ≤ m → (a ≤ suc m) × (b ≤ suc m)
  near a b m h k s = elim (decide (ltb a b)) [
    | inl e ↦ let a' : a ≤ m = rw e at s in (omega arith, omega (arith, a'))
    | inr e ↦ let b' : b ≤ m = rw e at s in (omega (arith, b'), omega (arith, b'))
  ]

  -- where no token stands inside more than m brackets, no more than m + 1 are open
  pub few : (from to m : ℕ) → ((n : ℕ) → from ≤ n → n < to → brackets_round opens closes f from n ≤ m) → (n : ℕ) → from ≤ n → n ≤ to → count from n ≤ suc m
  few from to m h zero a b = omega (arith, count_zero from)
  few from to m h (suc n) a b = elim (less_or_same from (suc n) a) [
    | inl lt ↦ (near (count from n) (count from (suc n)) m (omega (arith, count_step from n (omega arith), behind_least (f n) (count from n))) (omega (arith, count_step from n (omega arith), behind_most (f n) (count from n))) (h n (omega arith) (omega arith))).1
    | inr eq ↦ rw eq (omega (arith, count_start (suc n)))
  ]

  -- by the class of the token
  pub count_open : (from n : ℕ) → from ≤ n → has opens (f n) ≡ true → count from (suc n) ≡ suc (count from n)
  count_open from n a h = count_step from n a ∙ by_case (has opens (f n)) h
    where
      by_case : (u : Bool) → u ≡ true → cond u (suc (count from n)) (cond (has closes (f n)) (pred (count from n)) (count from n)) ≡ suc (count from n)
      by_case true e = refl
      by_case false e = cc

  pub count_close : (from n : ℕ) → from ≤ n → has opens (f n) ≡ false → has closes (f n) ≡ true → count from (suc n) ≡ pred (count from n)
  count_close from n a h k = count_step from n a ∙ by_case (has opens (f n)) (has closes (f n)) h k
    where
      by_case : (u w : Bool) → u ≡ false → w ≡ true → cond u (suc (count from n)) (cond w (pred (count from n)) (count from n)) ≡ pred (count from n)
      by_case true w e g = cc
      by_case false true e g = refl
      by_case false false e g = cc

  pub count_along : (from n : ℕ) → from ≤ n → has opens (f n) ≡ false → has closes (f n) ≡ false → count from (suc n) ≡ count from n
  count_along from n a h k = count_step from n a ∙ by_case (has opens (f n)) (has closes (f n)) h k
    where
      by_case : (u w : Bool) → u ≡ false → w ≡ false → cond u (suc (count from n)) (cond w (pred (count from n)) (count from n)) ≡ count from n
      by_case true w e g = cc
      by_case false true e g = cc
      by_case false false e g = refl

  -- a token stands inside at most as many brackets as are open before it
  pub inside_open : (from n : ℕ) → brackets_round opens closes f from n ≤ count from n
  inside_open from n = least (count from n) (count from (suc n))
    where
      not_less : (a b : ℕ) → ltb a b ≡ false → b ≤ a
      not_less a b e = grind arith

      least : (a b : ℕ) → smaller a b ≤ a
      least a b = elim (decide (ltb a b)) [ inl e ↦ rw e (omega arith) | inr e ↦ rw e (not_less a b e) ]

-- classes that are the same up to a token open as many brackets before it
pub count_same : (opens closes : List ℕ) (f g : ℕ → ℕ) (from n : ℕ) → ((k : ℕ) → k < n → f k ≡ g k) → open_at opens closes f from n ≡ open_at opens closes g from n
unfolding open_at
count_same opens closes f g from zero h = refl
count_same opens closes f g from (suc n) h = rw (h n (omega arith), count_same opens closes f g from n (λ k l. h k (omega arith))) refl
