-- The remainder of numbers with different signs.
use Rattle.std.proofs.Common.{◌≡◌, ℕ, suc, ◌+◌, ◌-◌, ◌*◌, ◌/◌, ◌%◌, ◌<◌, arith}
use Rattle.std.specs.Prelude.{ℤ, pos, negsuc, neg_ℤ, ◌+ℤ◌, unsigned_abs, true, false, ltb}
use Rattle.std.specs.Int.{is_negative}
use Rattle.std.proofs.lemmas.Int.{ints}
use Rattle.std.proofs.lemmas.Nat.{div-add-mod', mod_below}
use Rattle.meta_filter.specs.Arithmetic.{signed, differ, quotient_up, floor_remainder}

up_is : (n d : ℕ) → (n % d ≡ 0 → ⊥) → quotient_up n d ≡ suc (n / d)
up_is n d h = grind (arith, h)

not_below : (a : ℕ) → ltb a 0 ≡ false
not_below a = grind arith

once_more : (d q : ℕ) → d * suc q ≡ q * d + d
once_more d q = grind arith

taken : (n d q r : ℕ) → q * d + r ≡ n → r < d → (pos n +ℤ neg_ℤ (pos (d * suc q))) ≡ neg_ℤ (pos (d - r))
taken n d q r whole less = omega (arith, ints, whole, less, once_more d q)

added : (n d q r : ℕ) → q * d + r ≡ suc n → r < d → (negsuc n +ℤ neg_ℤ (neg_ℤ (pos (d * suc q)))) ≡ pos (d - r)
added n d q r whole less = omega (arith, ints, whole, less, once_more d q)

pub apart : (x y : ℤ) → 0 < unsigned_abs y → (unsigned_abs x % unsigned_abs y ≡ 0 → ⊥) → differ (is_negative x) (is_negative y) ≡ true → floor_remainder x y ≡ signed (is_negative y) (unsigned_abs y - unsigned_abs x % unsigned_abs y)
apart (pos a) (pos b) some left d = absurd (let e : false ≡ true = rw (not_below a, not_below b) at d in cc)
apart (pos a) (negsuc b) some left d = rw (not_below a, up_is a (suc b) left) (taken a (suc b) (a / suc b) (a % suc b) (div-add-mod' a (suc b)) (mod_below a (suc b) some))
apart (negsuc a) (pos b) some left d = rw (not_below b, up_is (suc a) b left) (added a b (suc a / b) (suc a % b) (div-add-mod' (suc a) b) (mod_below (suc a) b some))
apart (negsuc a) (negsuc b) some left d = absurd (let e : false ≡ true = d in cc)
