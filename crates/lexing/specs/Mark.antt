-- The byte order mark, U+FEFF, at the start of a text: one is skipped, and a second is no token.
use Rattle.std.specs.Prelude.{ℕ, ◌==◌, if◌then◌else◌, List, [], ◌∷◌}

-- the characters behind the mark
abbrev pub past_mark : List ℕ → List ℕ
past_mark [] = []
past_mark (c ∷ cs) = if c == 0xfeff then cs else c ∷ cs

-- the bytes of the mark
abbrev pub mark_len : List ℕ → ℕ
mark_len [] = 0
mark_len (c ∷ cs) = if c == 0xfeff then 3 else 0
