-- The commands of a stream.
use Rattle.std.specs.Prelude.{◌≡◌, ℕ, List, [], ◌∷◌, ◌++◌, length, take, Option, None, Some}
use Rattle.wire_stream.specs.Lines.{Line, Put, Del, Rule, Unrule, Sync, Scan, Fix, End, IsLine, line_bytes}
use Rattle.wire_stream.specs.declared.wire.Wire.{Wire}
use Rattle.wire_stream.specs.declared.wire.Wire.TheVariants as wires

-- the length of the body that follows a line, if one does
abbrev pub body_length : Line → Option ℕ
body_length (Put n path) = Some n
body_length (Rule n name) = Some n
body_length _ = None

-- a body of that length, and none where none follows
abbrev pub IsBody : Option ℕ → List ℕ → Type 0
IsBody None body = body ≡ []
IsBody (Some n) body = length body ≡ n

-- the body with its end, or nothing where none follows
abbrev pub body_bytes : Option ℕ → List ℕ → List ℕ
body_bytes None body = []
body_bytes (Some n) body = body ++ 10 ∷ []

-- the bytes of a command: its line with its end, and its body with its own
abbrev pub command_bytes : Line → List ℕ → List ℕ
command_bytes line body = line_bytes line ++ 10 ∷ body_bytes (body_length line) body

-- the command of a line and a body, of which a front is kept
abbrev pub wire_of : Line → List ℕ → Wire
wire_of (Put n path) body = wires.Put path (take 1000001 body)
wire_of (Del path) body = wires.Del path
wire_of (Rule n name) body = wires.Rule name (take 262145 body)
wire_of (Unrule name) body = wires.Unrule name
wire_of (Sync prefix) body = wires.Sync prefix
wire_of Scan body = wires.Scan
wire_of Fix body = wires.Fix
wire_of End body = wires.End

-- the stream begins with this command, and then goes on so
pub record Begins (stream : List ℕ) (line : Line) (body rest : List ℕ) : Type 0 where
  pub good : IsLine line
  pub whole : IsBody (body_length line) body
  pub are : stream ≡ command_bytes line body ++ rest

-- the stream begins with no command
abbrev pub BeginsNone : List ℕ → Type 0
BeginsNone stream = (line : Line) (body rest : List ℕ) → Begins stream line body rest → ⊥
