-- A line by itself as the code has it.
use Rattle.std.specs.Prelude.{◌≡◌, ◌≤◌, ◌^◌, ℕ, List, length}
use Rattle.std.specs.Str.{IsUtf8}
use Rattle.yaml_lines.specs.Marking.{marked}
use Rattle.yaml_lines.specs.Lines.{head_of}
use Rattle.yaml_lines.specs.Lines as lines
use Rattle.yaml_lines.specs.declared.read.Head.{Head}

-- what the code has of a line
abbrev pub headed : Head → lines.Head
headed h = record { marks = marked h.marks; key = h.key; scanned = h.scanned; value = h.value.now }

-- it is what the line says
abbrev pub IsHead : List ℕ → Head → Type 0
IsHead line h = headed h ≡ head_of line

-- what the code cuts out of a line lies in it
pub record Within (line : List ℕ) (h : Head) : Type 0 where
  pub short : length line ≤ 2 ^ 20
  pub content : length h.marks.content.now ≤ length line
  pub depth : h.scanned.scan.depth ≤ 2 ^ 20
  pub utf8 : IsUtf8 h.value.now
