-- Digits that follow make a number no smaller.
use Rattle.std.proofs.Common.{◌≡◌, ℕ, suc, ◌+◌, ◌*◌, ◌<◌, ◌≤◌, List, [], ◌∷◌, length, get_or, drop, arith}
use Rattle.std.proofs.Math.Seq.{drop-cons}
use Rattle.std.specs.Char.{digit_value}
use Rattle.std.specs.Str.Parse.{digits_value_after}
use Rattle.meta_filter.specs.Numerals.{digits_of}

pub no_smaller : (radix n : ℕ) (ds : List ℕ) → 1 ≤ radix → n ≤ digits_value_after radix n ds
no_smaller radix n [] h = omega arith
no_smaller radix n (d ∷ ds) h = omega (arith, no_smaller radix (n * radix + digit_value d) ds h, grown)
  where
    grown : n ≤ n * radix + digit_value d
    grown = grind (arith, h)

digit_kept : (d : ℕ) (ds : List ℕ) → (d ≡ 95 → ⊥) → digits_of (d ∷ ds) ≡ d ∷ digits_of ds
digit_kept d ds h = grind (arith, h)

-- a digit makes the number at least as large as what it gives
pub with_digit : (radix n : ℕ) (text : List ℕ) (i : ℕ) → 1 ≤ radix → i < length text → (get_or text i 0 ≡ 95 → ⊥) → n * radix + digit_value (get_or text i 0) ≤ digits_value_after radix n (digits_of (drop i text))
with_digit radix n text i some within other =
    rw (drop-cons text i 0 within) (rw (digit_kept (get_or text i 0) (drop (suc i) text) other) (no_smaller radix (n * radix + digit_value (get_or text i 0)) (digits_of (drop (suc i) text)) some))
