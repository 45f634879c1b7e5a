-- Fronts of lines and of commands.
use Rattle.std.specs.Prelude.{◌≡◌, ◌<◌, ◌≤◌, ◌⊎◌, ℕ, List, [], ◌++◌, length, codes, Option}
use Rattle.wire_stream.specs.Lines.{Line, IsLine, IsSized, line_bytes, sized_bytes}
use Rattle.wire_stream.specs.Commands.{body_length, IsBody, command_bytes}
use Rattle.wire_stream.specs.Streams.{Uses}

-- the bytes are a front of a line, or all of it
pub record IsLineFront (bytes : List ℕ) : Type 0 where
  pub line : Line
  pub rest : List ℕ
  pub good : IsLine line
  pub are : line_bytes line ≡ bytes ++ rest

-- the bytes are a front of a length, a space and a name
pub record IsSizedFront (bytes : List ℕ) : Type 0 where
  pub size : ℕ
  pub name : List ℕ
  pub rest : List ℕ
  pub good : IsSized size name
  pub are : sized_bytes size name ≡ bytes ++ rest

-- the bytes are a front of these bytes
abbrev pub IsFrontOf : List ℕ → List ℕ → Type 0
IsFrontOf whole bytes = (rest : List ℕ) × (whole ≡ bytes ++ rest)

-- the bytes are a front of a word that a name follows, and of the space between
abbrev pub IsNamedFront : List ℕ → Type 0
IsNamedFront bytes =
    IsFrontOf (codes "put ") bytes ⊎ (IsFrontOf (codes "del ") bytes ⊎ (IsFrontOf (codes "rule ") bytes ⊎ (IsFrontOf (codes "unrule ") bytes ⊎ IsFrontOf (codes "sync ") bytes)))

-- the bytes are a front of a word that stands alone
abbrev pub IsBareFront : List ℕ → Type 0
IsBareFront bytes = IsFrontOf (codes "scan") bytes ⊎ (IsFrontOf (codes "fix") bytes ⊎ IsFrontOf (codes "end") bytes)

-- the bytes are a front of a command, and not all of it
pub record IsCommandFront (bytes : List ℕ) : Type 0 where
  pub line : Line
  pub body : List ℕ
  pub rest : List ℕ
  pub good : IsLine line
  pub whole : IsBody (body_length line) body
  pub some : 0 < length rest
  pub are : command_bytes line body ≡ bytes ++ rest

-- what was in hand and what a told source has given since are a front of a command, and not all of it
abbrev pub Waits : Option (List ℕ) → Option (List ℕ) → List ℕ → Type 0
Waits left_old left_new hand = (bytes : List ℕ) × IsCommandFront bytes × Uses left_old left_new hand [] bytes

-- at most so many bytes were in hand or came since
abbrev pub WaitsWithin : Option (List ℕ) → Option (List ℕ) → List ℕ → ℕ → Type 0
WaitsWithin left_old left_new hand most = (bytes : List ℕ) × (length bytes ≤ most) × Uses left_old left_new hand [] bytes
