-- Marks as bits, 64 in a number.
use Rattle.std.proofs.Common.{◌≡◌, ◌≢◌, ◌⊎◌, inl, inr, ◌↔◌, ℕ, ◌*◌, ◌/◌, ◌%◌, ◌^◌, ◌<◌, List, length, get_or, set, refl, sym, ◌∙◌, ap, subst, arith, bit_or, nat_eq, true, false, get_or-set_same, get_or-set_other}
use Rattle.std.specs.Int.{bit_at, w64}
use Rattle.std.proofs.lemmas.Bool.{cases_eq}
use Rattle.std.proofs.lemmas.Grind.{get_or_default_zero}
use Rattle.std.proofs.lemmas.Nat.Bits.{bit_at_set_same, bit_at_set_other, bit_at-zero}
use Rattle.std.proofs.Math.Nat.{mod-lt}
use Rattle.file_match.specs.Words.{is_marked, IsMarked, HasRoom}

-- the bit of a place is set in the number that has it, which was read
module _ (marks : List ℕ) (at : ℕ) (room : at / 64 < length marks) (x : ℕ) (read : x ≡ get_or marks (at / 64) x) where
  abbrev with_bit : ℕ
  with_bit = bit_or x (1 * 2 ^ (at % 64) % 2 ^ 64)

  abbrev new : List ℕ
  new = set marks (at / 64) with_bit

  bit_here : (i : ℕ) → i / 64 ≡ at / 64 → is_marked new i ≡ nat_eq (bit_at with_bit (i % 64)) 1
  bit_here i e =
      let P : ℕ → Type 0 = λ k. nat_eq (bit_at (get_or new k 0) (i % 64)) 1 ≡ nat_eq (bit_at with_bit (i % 64)) 1 in
      subst P (sym e) (ap (λ (b : ℕ). nat_eq (bit_at b (i % 64)) 1) (get_or-set_same marks (at / 64) with_bit 0 room))

  now_set : is_marked new at ≡ true
  now_set = bit_here at refl ∙ ap (λ (b : ℕ). nat_eq b 1) (bit_at_set_same w64 x (at % 64) (omega arith))

  others : (i : ℕ) → at ≢ i → is_marked new i ≡ is_marked marks i
  others i ne = elim (cases_eq (i / 64) (at / 64)) [
    | inl e ↦
        let apart : i % 64 ≢ at % 64 = λ h. ne (omega arith) in
        let was : x ≡ get_or marks (i / 64) 0 = read ∙ get_or_default_zero marks (at / 64) x room ∙ ap (λ (k : ℕ). get_or marks k 0) (sym e) in
        bit_here i e ∙ ap (λ (b : ℕ). nat_eq b 1) (bit_at_set_other w64 x (at % 64) (omega arith) (i % 64) apart ∙ ap (λ (b : ℕ). bit_at b (i % 64)) was)
    | inr ne ↦ ap (λ (b : ℕ). nat_eq (bit_at b (i % 64)) 1) (get_or-set_other marks (at / 64) (i / 64) with_bit 0 ne)
  ]

  pub mark_put : (i : ℕ) → IsMarked (set marks (at / 64) (bit_or x (1 * 2 ^ (at % 64) % 2 ^ 64))) i ↔ (IsMarked marks i ⊎ (at ≡ i))
  mark_put i = elim (cases_eq at i) [
    | inl e ↦ (λ h. inr e, λ h. let P : ℕ → Type 0 = IsMarked new in subst P e now_set)
    | inr ne ↦ (λ h. inl (sym (others i ne) ∙ h), λ h. elim h [ inl was ↦ others i ne ∙ was | inr e ↦ absurd (ne e) ])
  ]

-- where each number is 0 nothing is marked
pub none_marked : (marks : List ℕ) → ((k : ℕ) → get_or marks k 0 ≡ 0) → (i : ℕ) → is_marked marks i ≡ false
none_marked marks none i = ap (λ (b : ℕ). nat_eq (bit_at b (i % 64)) 1) (none (i / 64)) ∙ ap (λ (b : ℕ). nat_eq b 1) (bit_at-zero (i % 64))

-- each place has its number
pub place_fits : (count : ℕ) (marks : List ℕ) (place : ℕ) → HasRoom count marks → place % count / 64 < length marks
place_fits count marks place (some, many) = let small : place % count < count = mod-lt place some in omega arith
