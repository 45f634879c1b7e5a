-- A source and a sink in memory, as contracts see them.
use Rattle.std.specs.Prelude.{ℕ, ◌+◌, ◌/◌, ◌<◌, List, length, min, take, Contains}
use Rattle.scan_world.specs.Faults.{next_count}
use Rattle.scan_world.specs.Files.{Files}

-- the bytes that are left, how many a read hands out at most, the numbers of the calls that fail, the calls and the
-- faults so far
pub record SourceState : Type 0 where
  pub left : List ℕ
  pub most : ℕ
  pub failing : List ℕ
  pub calls : ℕ
  pub faults : ℕ

-- the call that comes is one that fails
abbrev pub IsFailingRead : SourceState → Type 0
IsFailingRead s = Contains s.failing (next_count s.calls)

-- how many bytes the next read hands out to a buffer of so many
abbrev pub read_count : SourceState → ℕ → ℕ
read_count s room = min (min (length s.left) room) s.most

-- the bytes that were written, how many there may be, the numbers of the calls that fail, the calls and the faults so far
pub record SinkState : Type 0 where
  pub written : List ℕ
  pub room : ℕ
  pub failing : List ℕ
  pub calls : ℕ
  pub faults : ℕ

-- the piece would pass the room
abbrev pub PassesRoom : SinkState → List ℕ → Type 0
PassesRoom s piece = s.room < length s.written + length piece

-- the call that comes is one that fails
abbrev pub IsFailingWrite : SinkState → Type 0
IsFailingWrite s = Contains s.failing (next_count s.calls)

-- what a failing call takes of a piece: half of it, rounded down
abbrev pub half_of : List ℕ → List ℕ
half_of piece = take (length piece / 2) piece

-- the files, the numbers of the calls that fail, the calls, the faults and the absences so far
pub record TreeState : Type 0 where
  pub files : Files
  pub failing : List ℕ
  pub calls : ℕ
  pub faults : ℕ
  pub absences : ℕ

-- the call that comes is one that fails
abbrev pub IsFailingCall : TreeState → Type 0
IsFailingCall s = Contains s.failing (next_count s.calls)
