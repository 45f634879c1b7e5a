-- Sets of numbers that are held in words.
use Rattle.std.proofs.Common.{◌≡◌, ◌≢◌, ◌⊎◌, ◌↔◌, inl, inr, ℕ, ◌+◌, ◌*◌, ◌/◌, ◌%◌, ◌^◌, ◌<◌, ◌≤◌, List, length, get_or, set, max, sym, ◌∙◌, ap, subst, arith}
use Rattle.std.proofs.Common.{bit_and, bit_or, get_or-set_same, get_or-set_other}
use Rattle.std.specs.Int.{bit_at, bit_not, trailing_zeros, w64}
use Rattle.std.proofs.lemmas.Bool.{cases_eq}
use Rattle.std.proofs.lemmas.Grind.{get_or_default_zero}
use Rattle.std.proofs.lemmas.Nat.{div-mul-add, mod-mul-add}
use Rattle.std.proofs.lemmas.Nat.Bits.{bit_at_and, bit_at_or, bit_at_not, bit_at_above, bit_at_set_same, bit_at_set_other, bit_at-trailing_zeros, bit_at-zero, bit_at-lt}
use Rattle.flow_reach.specs.Bits.{bit_of, Has, InWord, IsWithout}

-- a number is in a set or not
pub bit_small : (set : List ℕ) (k : ℕ) → bit_of set k < 2
bit_small set k = bit_at-lt (get_or set (k / 64) 0) (k % 64)

pub no_bit : (set : List ℕ) (k : ℕ) → (Has set k → ⊥) → bit_of set k ≡ 0
no_bit set k none = elim (cases_eq (bit_of set k) 1) [ inl e ↦ absurd (none e) | inr ne ↦ omega (arith, bit_small set k) ]

pub has_none : (set : List ℕ) (k : ℕ) → bit_of set k ≡ 0 → Has set k → ⊥
has_none set k e h = omega arith

pub in_word_or : (word bits k : ℕ) → InWord word bits k ⊎ (InWord word bits k → ⊥)
in_word_or word bits k = elim (cases_eq (k / 64) word) [
  | inl e ↦ elim (cases_eq (bit_at bits (k % 64)) 1) [ inl b ↦ inl (e, b) | inr n ↦ inr (λ h. n h.1) ]
  | inr n ↦ inr (λ h. n h.0)
]

-- a word is written: its numbers, and the others
module _ (s : List ℕ) (word : ℕ) (room : word < length s) (v : ℕ) where
  pub at_word : (k : ℕ) → k / 64 ≡ word → bit_of (set s word v) k ≡ bit_at v (k % 64)
  at_word k e = let P : ℕ → Type 0 = λ w. bit_at (get_or (set s word v) w 0) (k % 64) ≡ bit_at v (k % 64) in subst P (sym e) (ap (λ x. bit_at x (k % 64)) (get_or-set_same s word v 0 room))

  pub other_word : (k : ℕ) → k / 64 ≢ word → bit_of (set s word v) k ≡ bit_of s k
  other_word k ne = ap (λ x. bit_at x (k % 64)) (get_or-set_other s word (k / 64) v 0 ne)

pub place_in_word : (k at : ℕ) → k / 64 ≡ at / 64 → k % 64 ≡ at % 64 → k ≡ at
place_in_word k at p q = omega arith

-- a word as it was read
pub read_word : (s : List ℕ) (word x : ℕ) → word < length s → x ≡ get_or s word x → x ≡ get_or s word 0
read_word s word x room e = e ∙ get_or_default_zero s word x room

module _ (s : List ℕ) (word : ℕ) (room : word < length s) (x : ℕ) (read : x ≡ get_or s word 0) where
  pub in_word : (k : ℕ) → k / 64 ≡ word → bit_at x (k % 64) ≡ bit_of s k
  in_word k e = ap (λ w. bit_at w (k % 64)) read ∙ ap (λ w. bit_at (get_or s w 0) (k % 64)) (sym e)

  pub put_there : (bits k : ℕ) → InWord word bits k → Has (set s word (bit_or x bits)) k
  put_there bits k (e, b) = at_word s word room (bit_or x bits) k e ∙ bit_at_or x bits (k % 64) ∙ top (bit_at x (k % 64)) (bit_at bits (k % 64)) (bit_at-lt x (k % 64)) b
    where
      top : (a b : ℕ) → a < 2 → b ≡ 1 → max a b ≡ 1
      top a b lt e = omega arith

  pub put_others : (bits k : ℕ) → (InWord word bits k → ⊥) → bit_of (set s word (bit_or x bits)) k ≡ bit_of s k
  put_others bits k none = elim (cases_eq (k / 64) word) [
    | inl e ↦ at_word s word room (bit_or x bits) k e ∙ bit_at_or x bits (k % 64) ∙ left (bit_at x (k % 64)) (bit_at bits (k % 64)) (bit_at-lt bits (k % 64)) (λ b. none (e, b)) ∙ in_word k e
    | inr n ↦ other_word s word room (bit_or x bits) k n
  ]
    where
      left : (a b : ℕ) → b < 2 → b ≢ 1 → max a b ≡ a
      left a b lt ne = omega arith

-- the word with one bit
pub one_bit : (at i : ℕ) → (bit_at (1 * 2 ^ (at % 64) % 2 ^ 64) i ≡ 1) ↔ (i ≡ at % 64)
one_bit at i =
    let lt : at % 64 < 64 = omega arith in (
      λ h. elim (cases_eq i (at % 64)) [
        | inl e ↦ e
        | inr n ↦ absurd (let z = bit_at_set_other w64 0 (at % 64) lt i n ∙ bit_at-zero i in omega (arith, h, z))
      ],
      λ e. let P : ℕ → Type 0 = λ j. bit_at (1 * 2 ^ (at % 64) % 2 ^ 64) j ≡ 1 in subst P (sym e) (bit_at_set_same w64 0 (at % 64) lt),
    )

-- the bits of one word that another doesn't have
pub without_bits : (bits others : ℕ) → bits < 2 ^ 64 → others < 2 ^ 64 → IsWithout bits others (bit_and bits (bit_not w64 others))
without_bits bits others small fits i = elim (below_or i) [
  | inl lt ↦
      let a = bit_at_and bits (bit_not w64 others) i in
      let b = bit_at_not w64 others i fits lt in
      let x = bit_at-lt bits i in
      let y = bit_at-lt others i in
      (λ h. (omega (arith, a, b, x, y, h), λ o. omega (arith, a, b, x, y, h, o)), λ h. let z : bit_at others i ≡ 0 = zero_of (bit_at others i) y h.1 in omega (arith, a, b, h.0, z))
  | inr ge ↦
      let a = bit_at_and bits (bit_not w64 others) i in
      let z = bit_at_above bits 64 i small ge in
      (λ h. absurd (omega (arith, a, z, h)), λ h. absurd (omega (arith, z, h.0)))
]
  where
    zero_of : (x : ℕ) → x < 2 → (x ≡ 1 → ⊥) → x ≡ 0
    zero_of x lt n = elim (cases_eq x 1) [ inl e ↦ absurd (n e) | inr ne ↦ omega arith ]

    below_or : (i : ℕ) → (i < 64) ⊎ (64 ≤ i)
    below_or i = elim (cases_eq (i / 64) 0) [ inl e ↦ inl (omega arith) | inr ne ↦ inr (omega arith) ]

-- the numbers of a word that has some
pub some_bit : (bits : ℕ) → bits ≢ 0 → bits < 2 ^ 64 → (i : ℕ) × (i < 64) × (bit_at bits i ≡ 1)
some_bit bits some fits =
    let pos : 0 < bits = omega arith in
    let f = bit_at-trailing_zeros w64 bits pos fits in
    (trailing_zeros w64 bits, f.0, f.1)

pub some_number : (word bits : ℕ) → bits ≢ 0 → bits < 2 ^ 64 → (k : ℕ) × InWord word bits k
some_number word bits some fits =
    let b = some_bit bits some fits in
    (word * 64 + b.0, (div-mul-add word 64 b.0 b.1, ap (bit_at bits) (mod-mul-add word 64 b.0 b.1) ∙ b.2))

pub no_number : (word bits k : ℕ) → bits ≡ 0 → InWord word bits k → ⊥
no_number word bits k e h = let z : bit_at bits (k % 64) ≡ 0 = ap (λ x. bit_at x (k % 64)) e ∙ bit_at-zero (k % 64) in omega (arith, h.1, z)
