-- Blanks, and what stands between them.
use Rattle.std.specs.Prelude.{ℕ, List, [], ◌∷◌, ◌==◌, ◌||◌, ◌&&◌, if◌then◌else◌, Bool, true, Option, Some, None, reverse}
use Rattle.std.specs.List.{prefix_len, list_all}

-- a space or a tab
abbrev pub is_blank : ℕ → Bool
is_blank b = b == 32 || b == 9

-- a text without the blanks at its start
abbrev pub past_blanks : List ℕ → List ℕ
past_blanks [] = []
past_blanks (b ∷ bs) = if is_blank b then past_blanks bs else b ∷ bs

-- a text without the blanks at its end
abbrev pub before_blanks : List ℕ → List ℕ
before_blanks bs = reverse (past_blanks (reverse bs))

-- how many spaces a line begins with
abbrev pub indentation : List ℕ → ℕ
indentation line = prefix_len (λ b. b == 32) line

-- the line has nothing but blanks
abbrev pub is_blank_line : List ℕ → Bool
is_blank_line line = list_all is_blank line

-- nothing, or a comment
abbrev pub is_comment : List ℕ → Bool
is_comment [] = true
is_comment (b ∷ bs) = b == 35

-- a line without content: blank, or a comment alone
abbrev pub is_skipped : List ℕ → Bool
is_skipped line = is_comment (past_blanks line)

-- before such a rest a sign stands alone
abbrev pub ends_sign : List ℕ → Bool
ends_sign [] = true
ends_sign (b ∷ bs) = is_blank b

-- the byte is the sign, and stands alone before this rest
abbrev pub is_sign : ℕ → ℕ → List ℕ → Bool
is_sign sign b rest = b == sign && ends_sign rest

-- what follows the sign, where the text begins with it and it stands alone
abbrev pub past_sign : ℕ → List ℕ → Option (List ℕ)
past_sign sign [] = None
past_sign sign (b ∷ bs) = if is_sign sign b bs then Some bs else None
