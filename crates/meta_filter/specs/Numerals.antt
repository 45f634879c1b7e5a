-- The numbers that texts write.
use Rattle.std.specs.Prelude.{ℕ, ◌==◌, nat_lt, if◌then◌else◌, Bool, true, false, not, ◌&&◌, ◌||◌, List, [], ◌∷◌, length, drop, slice_index, Option, None, ℤ}
use Rattle.std.specs.Char.{digit_value}
use Rattle.std.specs.Str.Parse.{digits_value}
use Rattle.meta_filter.specs.Arithmetic.{within, signed}

-- without each `_`
abbrev pub digits_of : List ℕ → List ℕ
digits_of [] = []
digits_of (c ∷ cs) = if c == 95 then digits_of cs else c ∷ digits_of cs

-- the number that digits write in a radix, where a `_` counts for nothing
abbrev pub magnitude : ℕ → List ℕ → ℕ
magnitude radix text = digits_value radix (digits_of text)

-- whether these are digits of the radix
abbrev pub are_digits : ℕ → List ℕ → Bool
are_digits radix [] = true
are_digits radix (c ∷ cs) = nat_lt (digit_value c) radix && are_digits radix cs

-- whether these are decimal digits with single `_` between them, behind a digit or not
abbrev pub are_separated : Bool → List ℕ → Bool
are_separated behind [] = behind
are_separated behind (c ∷ cs) = if c == 95 then behind && are_separated false cs else nat_lt (digit_value c) 10 && are_separated true cs

-- `0`, or decimal digits with single `_` between them and no leading 0
abbrev pub is_decimal : List ℕ → Bool
is_decimal text = are_separated false text && (not (slice_index text 0 == 48) || length text == 1)

-- the radix that `0x`, `0o` or `0b` tells, else 10
abbrev pub radix_of : List ℕ → ℕ
radix_of text = if not (slice_index text 0 == 48) then 10 else (if slice_index text 1 == 120 then 16 else (if slice_index text 1 == 111 then 8 else (if slice_index text 1 == 98 then 2 else 10)))

-- `0x`, `0o` or `0b` and its digits
abbrev pub is_based : List ℕ → Bool
is_based text = not (radix_of text == 10) && (not (length text == 2) && are_digits (radix_of text) (drop 2 text))

-- a number with a sign, where it is one and fits in 128 bits
abbrev pub numeral : Bool → List ℕ → Option ℤ
numeral negative text = if is_decimal text then within (signed negative (magnitude 10 text)) else (if is_based text then within (signed negative (magnitude (radix_of text) (drop 2 text))) else None)

-- the number that a text writes, with or without a `-`
abbrev pub written : List ℕ → Option ℤ
written text = if slice_index text 0 == 45 then numeral true (drop 1 text) else numeral false text
