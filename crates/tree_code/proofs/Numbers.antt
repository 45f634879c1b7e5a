-- Numbers and their bytes.
use Rattle.std.proofs.Common.{◌≡◌, ℕ, ◌+◌, ◌-◌, ◌*◌, ◌/◌, ◌%◌, ◌<◌, ◌≤◌, ◌^◌, cond, get_or, inl, inr, ◌⊎◌, List, [], ◌∷◌, ◌++◌, refl, sym, ap, ◌∙◌, arith}
use Rattle.std.specs.Prelude.{nat_lt}
use Rattle.std.specs.Int.{w32, to_le_bytes}
use Rattle.std.proofs.lemmas.Bool.{cases_lt, cond_below, cond_above}
use Rattle.tree_code.specs.Code.{number_code}

-- ---- by how large they are

abbrev pub two_bytes : ℕ → List ℕ
two_bytes n = (n / 256 + 192) ∷ (n % 256) ∷ []

abbrev pub five_bytes : ℕ → List ℕ
five_bytes n = 255 ∷ (n % 256) ∷ (n / 256 % 256) ∷ (n / 65536 % 256) ∷ (n / 16777216) ∷ []

abbrev longer : ℕ → List ℕ
longer n = cond (nat_lt n 16128) (two_bytes n) (five_bytes n)

pub code_tiny : (n : ℕ) → n < 192 → n ∷ [] ≡ number_code n
unfolding number_code
code_tiny n lt = cond_below n 192 (n ∷ []) (longer n) lt

pub code_small : (n : ℕ) → 192 ≤ n → n < 16128 → two_bytes n ≡ number_code n
unfolding number_code
code_small n le lt = cond_above n 192 (n ∷ []) (longer n) (two_bytes n) le (cond_below n 16128 (two_bytes n) (five_bytes n) lt)

pub code_large : (n : ℕ) → 16128 ≤ n → five_bytes n ≡ number_code n
unfolding number_code
code_large n le = cond_above n 192 (n ∷ []) (longer n) (five_bytes n) (omega arith) (cond_above n 16128 (two_bytes n) (five_bytes n) (five_bytes n) le refl)

-- the same by the lowest bytes first
module _ (n : ℕ) (bs : List ℕ) (e : bs ≡ to_le_bytes w32 n) where
  pub tiny_written : n < 192 → get_or bs 0 0 ∷ [] ≡ number_code n
  tiny_written lt = ap (λ (v : List ℕ). get_or v 0 0 ∷ []) e ∙ ap (λ (m : ℕ). m ∷ []) (omega arith) ∙ code_tiny n lt

  pub small_written : 192 ≤ n → n < 16128 → (get_or bs 1 0 + 192) ∷ get_or bs 0 0 ∷ [] ≡ number_code n
  small_written le lt =
      ap (λ (v : List ℕ). (get_or v 1 0 + 192) ∷ get_or v 0 0 ∷ []) e ∙ ap (λ (m : ℕ). (m + 192) ∷ (n % 256) ∷ []) (omega arith) ∙ code_small n le lt

  pub large_written : 16128 ≤ n → n < 2 ^ 32 → 255 ∷ get_or bs 0 0 ∷ get_or bs 1 0 ∷ get_or bs 2 0 ∷ get_or bs 3 0 ∷ [] ≡ number_code n
  large_written le lt =
      ap (λ (v : List ℕ). 255 ∷ get_or v 0 0 ∷ get_or v 1 0 ∷ get_or v 2 0 ∷ get_or v 3 0 ∷ []) e
      ∙ ap (λ (m : ℕ). 255 ∷ (n % 256) ∷ (n / 256 % 256) ∷ (n / 65536 % 256) ∷ m ∷ []) (omega arith) ∙ code_large n le

-- ---- read back

abbrev second : ℕ → List ℕ → ℕ × List ℕ
second a [] = (0, [])
second a (b ∷ xs) = ((a - 192) * 256 + b, xs)

abbrev four : List ℕ → ℕ × List ℕ
four (a ∷ b ∷ c ∷ d ∷ xs) = (a + b * 256 + c * 65536 + d * 16777216, xs)
four xs = (0, [])

-- the number that stands at the front, and what is behind it
abbrev pub number_of : List ℕ → ℕ × List ℕ
number_of [] = (0, [])
number_of (a ∷ xs) = cond (nat_lt a 192) (a, xs) (cond (nat_lt a 255) (second a xs) (four xs))

pub number_back : (n : ℕ) (r : List ℕ) → number_of (number_code n ++ r) ≡ (n, r)
number_back n r = by_size (cases_lt n 192) (cases_lt n 16128)
  where
    with_code : (c : List ℕ) → c ≡ number_code n → (n, r) ≡ number_of (c ++ r) → number_of (number_code n ++ r) ≡ (n, r)
    with_code c e h = ap (λ (v : List ℕ). number_of (v ++ r)) (sym e) ∙ sym h

    small : (n / 256 + 192 - 192) * 256 + n % 256 ≡ n
    small = omega arith

    large : n % 256 + n / 256 % 256 * 256 + n / 65536 % 256 * 65536 + n / 16777216 * 16777216 ≡ n
    large = omega arith

    by_size : (n < 192) ⊎ (192 ≤ n) → (n < 16128) ⊎ (16128 ≤ n) → number_of (number_code n ++ r) ≡ (n, r)
    by_size (inl lt) s = with_code (n ∷ []) (code_tiny n lt) (cond_below n 192 (n, r) (cond (nat_lt n 255) (second n r) (four r)) lt)
    by_size (inr le) (inl lt) =
        let a : ℕ = n / 256 + 192 in
        let xs : List ℕ = (n % 256) ∷ r in
        with_code (two_bytes n) (code_small n le lt)
        (cond_above a 192 (a, xs) (cond (nat_lt a 255) (second a xs) (four xs)) (n, r) (omega arith) (ap (λ (m : ℕ). (m, r)) (sym small) ∙ cond_below a 255 (second a xs) (four xs) (omega arith)))
    by_size (inr le) (inr le') =
        let xs : List ℕ = (n % 256) ∷ (n / 256 % 256) ∷ (n / 65536 % 256) ∷ (n / 16777216) ∷ r in
        with_code (five_bytes n) (code_large n le') (ap (λ (m : ℕ). (m, r)) (sym large))

-- numbers of which the same stands there, with the same behind them, are equal
pub number_tells : (m n : ℕ) (r s : List ℕ) → number_code m ++ r ≡ number_code n ++ s → (m ≡ n) × (r ≡ s)
number_tells m n r s e =
    let same : (m, r) ≡ (n, s) = sym (number_back m r) ∙ ap number_of e ∙ number_back n s in
    (ap (λ (p : ℕ × List ℕ). p.0) same, ap (λ (p : ℕ × List ℕ). p.1) same)
