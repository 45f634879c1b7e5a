-- Texts without their escapes as the code has them.
use Rattle.std.specs.Prelude.{ℕ, List, string_bytes}
use Rattle.yaml_lines.specs.declared.escape.Reading.{Reading}
use Rattle.yaml_cells.specs.declared.quoted.Unescaped.{Unescaped}

-- the bytes, and what the next character would be
abbrev pub said : Unescaped → List ℕ × Reading
said u = (string_bytes u.content, u.reading)
