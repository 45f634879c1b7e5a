-- The marks of a line as the code has them.
use Rattle.std.specs.Prelude.{◌≡◌, ℕ, List}
use Rattle.yaml_lines.specs.Marks.{Marked, marks_of}
use Rattle.yaml_lines.specs.declared.head.Marks.{Marks}

-- the marks that the code has
abbrev pub marked : Marks → Marked
marked m = record { dashes = m.dashes; content = m.content.now; tab_before = m.tab_before; tab_after = m.tab_after }

-- they are the line's
abbrev pub IsMarked : List ℕ → Marks → Type 0
IsMarked line m = marked m ≡ marks_of line
