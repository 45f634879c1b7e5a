-- The text of a string's node: its prefix, a quote, and its content as written.
use Rattle.std.specs.Prelude.{ℕ, suc, ◌+◌, ◌-◌, Bool, true, false, ◌==◌, ◌&&◌, ◌||◌, if◌then◌else◌, ltb, leb, List, [], ◌∷◌, ◌++◌, length, take, drop, get_or, codes}

abbrev pub is_quote : ℕ → Bool
is_quote b = b == 34 || b == 39

-- how many bytes stand before the first quote
abbrev pub quote_at : List ℕ → ℕ
quote_at [] = 0
quote_at (b ∷ bs) = if is_quote b then 0 else suc (quote_at bs)

-- how many bytes the opening quotes have: three, where three of a kind stand first and as many behind them may close
abbrev pub quote_width : List ℕ → ℕ
quote_width (a ∷ b ∷ c ∷ d ∷ e ∷ f ∷ bs) = if a == b && b == c then 3 else 1
quote_width bs = 1

-- a letter stands there, in either case
abbrev pub has_letter : ℕ → ℕ → List ℕ → Bool
has_letter small capital [] = false
has_letter small capital (b ∷ bs) = if b == small || b == capital then true else has_letter small capital bs

-- the letters of a prefix: small, in the order of the alphabet, and without `u`
abbrev pub kept : Bool → List ℕ → List ℕ
kept true letter = letter
kept false letter = []

abbrev pub prefix : List ℕ → List ℕ
prefix bs = kept (has_letter 98 66 bs) (codes "b") ++ (kept (has_letter 102 70 bs) (codes "f") ++ kept (has_letter 114 82 bs) (codes "r"))

-- what stands between two places, where ASCII stands before the one and from the other on
abbrev pub between : List ℕ → ℕ → ℕ → List ℕ
between bs from to = if leb from to && ltb to (length bs) && ltb (get_or bs (from - 1) 0) 128 && ltb (get_or bs to 0) 128 then take (to - from) (drop from bs) else []

-- what stands between the quotes
abbrev pub content : List ℕ → ℕ → ℕ → List ℕ
content text start width = between text (start + width) (length text - width)

abbrev pub shown_prefix : List ℕ → List ℕ
shown_prefix text = prefix (take (quote_at text) text)

abbrev pub shown_string : List ℕ → List ℕ
shown_string text = shown_prefix text ++ 34 ∷ content text (quote_at text) (quote_width (drop (quote_at text) text))
