-- Names of metavariables.
use Rattle.std.specs.Prelude.{ℕ, Bool, true, false, ◌&&◌, ◌||◌, nat_le, nat_eq, List, [], ◌∷◌, if◌then◌else◌, Option, Some, None}
use Rattle.std.specs.Option.{option_and_then}

-- a capital letter or `_`
abbrev pub begins_name : ℕ → Bool
begins_name b = (nat_le 65 b && nat_le b 90) || nat_eq b 95

-- a capital letter, `_` or a digit
abbrev pub goes_on : ℕ → Bool
goes_on b = begins_name b || (nat_le 48 b && nat_le b 57)

abbrev pub all_go_on : List ℕ → Bool
all_go_on [] = true
all_go_on (b ∷ bs) = goes_on b && all_go_on bs

-- a capital letter or `_`, and then capital letters, digits and `_`
abbrev pub is_plain_name : List ℕ → Bool
is_plain_name [] = false
is_plain_name (b ∷ bs) = begins_name b && all_go_on bs

-- what is behind a byte, if that one is first
abbrev pub past : ℕ → List ℕ → Option (List ℕ)
past byte [] = None
past byte (b ∷ bs) = if nat_eq b byte then Some bs else None

-- what is behind three dots, if they are first
abbrev pub past_dots : List ℕ → Option (List ℕ)
past_dots bs = option_and_then (past 46) (option_and_then (past 46) (past 46 bs))

abbrev is_dotted : List ℕ → Option (List ℕ) → Bool
is_dotted bs None = is_plain_name bs
is_dotted bs (Some rest) = is_plain_name rest

abbrev is_signed : Option (List ℕ) → Bool
is_signed None = false
is_signed (Some bs) = is_dotted bs (past_dots bs)

-- `$NAME` or `$...NAME`
abbrev pub is_name : List ℕ → Bool
is_name bs = is_signed (past 36 bs)
