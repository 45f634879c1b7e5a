-- Places in a text as people name them.
use Rattle.std.specs.Prelude.{ℕ, ◌+◌, ◌==◌, Bool, not, List, take, count_by}
use Rattle.std.specs.List.{suffix_len}
use Rattle.node_tree.specs.declared.place.Place.{Place}

-- a line ends after each of these bytes
abbrev pub ends_line : ℕ → Bool
ends_line byte = byte == 10

-- how many lines end before a place
abbrev pub lines_before : List ℕ → ℕ → ℕ
lines_before text at = count_by ends_line (take at text)

-- how many bytes stand before a place in its line: those after the last line end, or after the start of the text
abbrev pub bytes_before : List ℕ → ℕ → ℕ
bytes_before text at = suffix_len (λ byte. not (ends_line byte)) (take at text)

-- lines and columns are counted from 1
abbrev pub place_of : List ℕ → ℕ → Place
place_of text at = record { line = lines_before text at + 1; col = bytes_before text at + 1; offset = at }
