-- How far a text was read, and the marks that are kept of it.
use Rattle.std.specs.Prelude.{◌≡◌, ℕ, ◌+◌, not, List, [], ◌∷◌, take, count_by}
use Rattle.std.specs.List.{suffix_len}
use Rattle.node_tree.specs.declared.mark.Mark.{Mark}
use Rattle.node_tree.specs.Places.{ends_line}

-- what stands in a front of a text: the lines that end in it, and the bytes after the last end
abbrev pub mark_of : List ℕ → Mark
mark_of front = record { lines = count_by ends_line front; bytes = suffix_len (λ byte. not (ends_line byte)) front }

-- one mark for each 1,024 bytes, from a place on
abbrev pub AreMarks : List ℕ → ℕ → List Mark → Type 0
AreMarks text at [] = Unit {0}
AreMarks text at (m ∷ ms) = (m ≡ mark_of (take at text)) × AreMarks text (at + 1024) ms
