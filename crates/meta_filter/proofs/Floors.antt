-- The quotient rounded down is the floor of the quotient.
use Rattle.std.proofs.Common.{◌≡◌, ℕ, zero, suc, ◌+◌, ◌*◌, ◌/◌, ◌<◌, ◌≤◌, arith, refl}
use Rattle.std.specs.Prelude.{ℤ, pos, negsuc, neg_ℤ, ◌*ℤ◌, unsigned_abs, false, ltb}
use Rattle.std.proofs.lemmas.Int.{ints}
use Rattle.std.proofs.lemmas.Nat.{div-add-mod', mod_below}
use Rattle.meta_filter.specs.Arithmetic.{quotient_up, floor_quotient, IsFloor}

not_below : (a : ℕ) → ltb a 0 ≡ false
not_below a = grind arith

more : (q d : ℕ) → suc q * d ≡ q * d + d
more q d = grind arith

-- the product with a quotient rounded up
up_reaches : (n d : ℕ) → 0 < d → n ≤ quotient_up n d * d
up_reaches n d h = grind (arith, div-add-mod' n d, mod_below n d h, more (n / d) d)

up_stays : (n d : ℕ) → 0 < d → quotient_up n d * d < n + d
up_stays n d h = grind (arith, div-add-mod' n d, mod_below n d h, more (n / d) d)

signs : (u b : ℕ) → (neg_ℤ (pos u) *ℤ negsuc b) ≡ pos (u * suc b)
signs zero b = omega (arith, ints)
signs (suc u) b = refl

sign : (u b : ℕ) → (neg_ℤ (pos u) *ℤ pos b) ≡ neg_ℤ (pos (u * b))
sign zero b = omega (arith, ints)
sign (suc u) b = refl

both_positive : (a b : ℕ) → 0 < b → IsFloor (pos a) (pos b) (pos (a / b))
both_positive a b some = record {
  above = λ h. (omega (arith, ints, div-add-mod' a b), omega (arith, ints, div-add-mod' a b, mod_below a b some));
  below = λ h. absurd (omega (arith, ints, h));
}

both_negative : (a b : ℕ) → IsFloor (negsuc a) (negsuc b) (pos (suc a / suc b))
both_negative a b = record {
  above = λ h. absurd (omega (arith, ints, h));
  below = λ h. (omega (arith, ints, div-add-mod' (suc a) (suc b)), omega (arith, ints, div-add-mod' (suc a) (suc b), mod_below (suc a) (suc b) (omega arith)));
}

divisor_negative : (a b u : ℕ) → a ≤ u * suc b → u * suc b < a + suc b → IsFloor (pos a) (negsuc b) (neg_ℤ (pos u))
divisor_negative a b u reaches stays = record {
  above = λ h. absurd (omega (arith, ints, h));
  below = λ h. rw (signs u b) (omega (arith, ints, reaches), omega (arith, ints, stays));
}

divisor_positive : (a b u : ℕ) → suc a ≤ u * b → u * b < suc a + b → 0 < b → IsFloor (negsuc a) (pos b) (neg_ℤ (pos u))
divisor_positive a b u reaches stays some = record {
  above = λ h. rw (sign u b) (omega (arith, ints, reaches), omega (arith, ints, stays));
  below = λ h. absurd (omega (arith, ints, h));
}

pub floor_is : (x y : ℤ) → 0 < unsigned_abs y → IsFloor x y (floor_quotient x y)
floor_is (pos a) (pos b) some = rw (not_below a, not_below b) (both_positive a b some)
floor_is (pos a) (negsuc b) some = rw (not_below a) (divisor_negative a b (quotient_up a (suc b)) (up_reaches a (suc b) some) (up_stays a (suc b) some))
floor_is (negsuc a) (pos b) some = rw (not_below b) (divisor_positive a b (quotient_up (suc a) b) (up_reaches (suc a) b some) (up_stays (suc a) b some) some)
floor_is (negsuc a) (negsuc b) some = both_negative a b
