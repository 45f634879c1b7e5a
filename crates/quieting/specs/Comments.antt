-- What stands in a comment.
use Rattle.std.specs.Prelude.{ℕ, ◌-◌, ◌==◌, ◌&&◌, ◌||◌, Bool, nat_le, if◌then◌else◌, List, [], drop, length, codes, nat_eq, slice_index, slice_range, Option, None, Some}
use Rattle.std.specs.List.{prefix_len, starts_with}

-- a comment from `/*` to `*/`
abbrev pub is_block : List ℕ → Bool
is_block t = slice_index t 0 == 47 && slice_index t 1 == 42 && nat_le 4 (length t) && slice_index t (length t - 2) == 42

-- what follows the `#` or `//` of a comment, or stands between its `/*` and `*/`; nothing of what is no comment
abbrev pub content_of : List ℕ → List ℕ
content_of t =
    if slice_index t 0 == 35 then drop 1 t
    else (if slice_index t 0 == 47 && slice_index t 1 == 47 then drop 2 t else (if is_block t then slice_range t 2 (length t - 2) else []))

-- a space or a tab
abbrev pub is_blank : ℕ → Bool
is_blank b = b == 32 || b == 9

abbrev pub past_blanks : List ℕ → List ℕ
past_blanks t = drop (prefix_len is_blank t) t

-- the word that a comment begins with which quiets
abbrev pub quieting_word : List ℕ
quieting_word = codes "nosemgrep"

-- what follows that word, where the content of a comment begins with it, spaces and tabs aside
abbrev pub past_word : List ℕ → Option (List ℕ)
past_word content = if starts_with nat_eq (past_blanks content) quieting_word then Some (drop 9 (past_blanks content)) else None
