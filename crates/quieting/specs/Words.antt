-- Words in a text, and the gaps between them.
use Rattle.std.specs.Prelude.{ℕ, suc, ◌==◌, ◌&&◌, ◌||◌, Bool, if◌then◌else◌, List, [], ◌∷◌, take, drop, slice_index}

-- a space, a tab or a line end
abbrev pub begins_gap : List ℕ → Bool
begins_gap t = slice_index t 0 == 32 || slice_index t 0 == 9 || slice_index t 0 == 10 || (slice_index t 0 == 13 && slice_index t 1 == 10)

-- how many bytes of gaps the text begins with
abbrev pub gap_len : List ℕ → ℕ
gap_len [] = 0
gap_len (b ∷ bs) = if begins_gap (b ∷ bs) then suc (gap_len bs) else 0

-- how many bytes stand before the first gap
abbrev pub word_len : List ℕ → ℕ
word_len [] = 0
word_len (b ∷ bs) = if begins_gap (b ∷ bs) then 0 else suc (word_len bs)

-- the first of the words that stand between gaps, or nothing where there is none
abbrev pub first_word : List ℕ → List ℕ
first_word t = take (word_len (drop (gap_len t) t)) (drop (gap_len t) t)
