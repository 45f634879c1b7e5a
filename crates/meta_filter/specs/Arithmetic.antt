-- Arithmetic on whole numbers, as far as they fit in 128 bits with a sign.
use Rattle.std.specs.Prelude.{ℕ, suc, ◌/◌, ◌%◌, ◌==◌, nat_lt, Bool, true, false, not, ◌&&◌, ◌||◌, if◌then◌else◌, Option, Some, None, ℤ, pos, negsuc, neg_ℤ, ◌+ℤ◌, ◌-ℤ◌, ◌*ℤ◌, ◌≤ℤ◌, ◌<ℤ◌, unsigned_abs, int_lt, int_le}
use Rattle.std.specs.Int.{is_negative}
use Rattle.rule_form.specs.declared.comparison.ArithOp.{ArithOp}
use Rattle.rule_form.specs.declared.comparison.ArithOp.TheVariants as ariths
use Rattle.rule_form.specs.declared.comparison.CompareOp.{CompareOp}
use Rattle.rule_form.specs.declared.comparison.CompareOp.TheVariants as compares

-- from -2^127 to 2^127 - 1
abbrev pub fits : ℤ → Bool
fits (pos n) = nat_lt n 170141183460469231731687303715884105728
fits (negsuc n) = nat_lt n 170141183460469231731687303715884105728

abbrev pub within : ℤ → Option ℤ
within z = if fits z then Some z else None

-- a size with a sign
abbrev pub signed : Bool → ℕ → ℤ
signed true n = neg_ℤ (pos n)
signed false n = pos n

-- whether one of two numbers is negative, and the other isn't
abbrev pub differ : Bool → Bool → Bool
differ true b = not b
differ false b = b

-- the quotient of two sizes, rounded up
abbrev pub quotient_up : ℕ → ℕ → ℕ
quotient_up n d = if n % d == 0 then n / d else suc (n / d)

-- the quotient rounded down, by a number that isn't 0
abbrev pub floor_quotient : ℤ → ℤ → ℤ
floor_quotient x y = if differ (is_negative x) (is_negative y) then neg_ℤ (pos (quotient_up (unsigned_abs x) (unsigned_abs y))) else pos (unsigned_abs x / unsigned_abs y)

-- the greatest number that is at most the quotient of x by y
pub record IsFloor (x y q : ℤ) : Type 0 where
  pub above : pos 0 <ℤ y → ((q *ℤ y) ≤ℤ x) × (x <ℤ ((q *ℤ y) +ℤ y))
  pub below : y <ℤ pos 0 → (x ≤ℤ (q *ℤ y)) × (((q *ℤ y) +ℤ y) <ℤ x)

-- what that leaves
abbrev pub floor_remainder : ℤ → ℤ → ℤ
floor_remainder x y = x -ℤ (y *ℤ floor_quotient x y)

-- an operation, which has no result where it divides by 0 or doesn't fit
abbrev pub computed : ArithOp → ℤ → ℤ → Option ℤ
computed ariths.Plus x y = within (x +ℤ y)
computed ariths.Minus x y = within (x -ℤ y)
computed ariths.Times x y = within (x *ℤ y)
computed ariths.Divide x y = if unsigned_abs y == 0 then None else within (floor_quotient x y)
computed ariths.Remainder x y = if unsigned_abs y == 0 then None else within (floor_remainder x y)

abbrev pub compared : CompareOp → ℤ → ℤ → Bool
compared compares.Less x y = int_lt x y
compared compares.LessEqual x y = int_le x y
compared compares.Greater x y = int_lt y x
compared compares.GreaterEqual x y = int_le y x
compared compares.Equal x y = int_le x y && int_le y x
compared compares.NotEqual x y = int_lt x y || int_lt y x
