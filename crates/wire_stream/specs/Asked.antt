-- The lines that were read.
use Rattle.std.specs.Prelude.{◌≡◌, ℕ, List}
use Rattle.wire_stream.specs.Lines.{Line, Put, Del, Rule, Unrule, Sync, Scan, Fix, End, IsLine, line_bytes}
use Rattle.wire_stream.specs.declared.line.Asked.{Asked}
use Rattle.wire_stream.specs.declared.line.Asked.TheVariants as asked

-- the line of what is asked for
abbrev pub line_of : Asked → Line
line_of (asked.Put n path) = Put n path.now
line_of (asked.Del path) = Del path.now
line_of (asked.Rule n name) = Rule n name.now
line_of (asked.Unrule name) = Unrule name.now
line_of (asked.Sync prefix) = Sync prefix.now
line_of asked.Scan = Scan
line_of asked.Fix = Fix
line_of asked.End = End

-- the bytes are this line
pub record IsLineOf (bytes : List ℕ) (line : Line) : Type 0 where
  pub good : IsLine line
  pub are : bytes ≡ line_bytes line

-- the bytes are no line
abbrev pub IsNoLine : List ℕ → Type 0
IsNoLine bytes = (line : Line) → IsLineOf bytes line → ⊥
