-- A session: the commands of a stream, one after the other.
use Rattle.std.specs.Prelude.{◌≢◌, ◌≤◌, ◌+◌, ◌-◌, ℕ, List, [], ◌++◌, Option}
use Rattle.std.specs.List.{concat}
use Rattle.std.specs.Io.KnownBytes.{Appends}
use Rattle.scan_world.specs.Streams.{AppendsFront}
use Rattle.file_map.specs.declared.limit.LimitKind.{LimitKind}
use Rattle.file_map.specs.declared.limit.LimitKind.TheVariants.{Stream}
use Rattle.run_status.specs.declared.status.Status.{Status}
use Rattle.run_status.specs.declared.status.Status.TheVariants.{Done, BadCommand, OverLimit}
use Rattle.wire_stream.specs.declared.wire.Wire.{Wire}
use Rattle.wire_stream.specs.declared.wire.Wire.TheVariants as wires
use Rattle.wire_stream.specs.Commands.{BeginsNone}
use Rattle.wire_stream.specs.Feeds.{Used, BeginsLonger}
use Rattle.wire_stream.specs.Streams.{OfStream}
use Rattle.wire_stream.specs.Fronts.{Waits}
use Rattle.stream_run.specs.declared.reply.Reply.{Reply}
use Rattle.stream_run.specs.Printed.{lines_of}
use Rattle.stream_run.specs.Doing.{Setting, Shelves, empty_shelves, Does, Passes}

-- the stream, where it is told, begins with this command of so many bytes and goes on so
abbrev pub GoesOn : Option (List ℕ) → Wire → ℕ → Option (List ℕ) → Type 0
GoesOn stream wire count rest = Used stream rest [] [] wire count

-- The first commands of the stream were done: up to that place in bytes, with these lines, these files and rules, and this rest
-- of the stream. None of them is `end`, and each ends within the stream's first 268,435,456 bytes.
pub data Plays (s : Setting) (stream : Option (List ℕ)) : ℕ → List (List ℕ) → Shelves → Option (List ℕ) → Type 0 where
  begun : Plays s stream 0 [] empty_shelves stream
  more : (place count : ℕ) (lines : List (List ℕ)) (old shelves : Shelves) (left rest : Option (List ℕ)) (wire : Wire) (reply : Reply)
      → Plays s stream place lines old left → GoesOn left wire count rest → wire ≢ wires.End → place + count ≤ 268435456 → Does s old wire shelves reply
      → Plays s stream (place + count) (lines ++ lines_of reply) shelves rest

-- How a session ends, and the lines that it prints: by `end`, or where the stream begins with no command, where the next command
-- ends too late in the stream, or where that would pass a limit.
pub data SessionEnds (s : Setting) (stream : Option (List ℕ)) : Status → List (List ℕ) → Type 0 where
  ended : (place count : ℕ) (lines : List (List ℕ)) (shelves : Shelves) (left rest : Option (List ℕ))
      → Plays s stream place lines shelves left → GoesOn left wires.End count rest → place + count ≤ 268435456 → SessionEnds s stream Done lines
  bad : (place : ℕ) (lines : List (List ℕ)) (shelves : Shelves) (left : Option (List ℕ))
      → Plays s stream place lines shelves left → OfStream left [] BeginsNone → SessionEnds s stream (BadCommand place) lines
  long : (place : ℕ) (lines : List (List ℕ)) (shelves : Shelves) (left : Option (List ℕ))
      → Plays s stream place lines shelves left → OfStream left [] (BeginsLonger (268435456 - place)) → SessionEnds s stream (OverLimit Stream 268435457) lines
  over : (place count : ℕ) (lines : List (List ℕ)) (shelves : Shelves) (left rest : Option (List ℕ)) (wire : Wire) (kind : LimitKind) (n : ℕ)
      → Plays s stream place lines shelves left → GoesOn left wire count rest → place + count ≤ 268435456 → Passes s shelves kind n wire
      → SessionEnds s stream (OverLimit kind n) lines

-- these lines are those of the first commands of the stream
abbrev pub AreFirstLines : Setting → Option (List ℕ) → List (List ℕ) → Type 0
AreFirstLines s stream lines = (place : ℕ) × (shelves : Shelves) × (left : Option (List ℕ)) × Plays s stream place lines shelves left

-- what was written are the lines of a session that ends so
pub record PrintsEnd (s : Setting) (stream written written_after : Option (List ℕ)) (status : Status) : Type 0 where
  pub lines : List (List ℕ)
  pub ends : SessionEnds s stream status lines
  pub printed : Appends written written_after (concat lines)

-- what was written are the lines of the first commands
pub record PrintsFirst (s : Setting) (stream written written_after : Option (List ℕ)) : Type 0 where
  pub lines : List (List ℕ)
  pub first : AreFirstLines s stream lines
  pub printed : Appends written written_after (concat lines)

-- what was written is a front of the lines of the first commands
pub record PrintsFront (s : Setting) (stream written written_after : Option (List ℕ)) : Type 0 where
  pub lines : List (List ℕ)
  pub first : AreFirstLines s stream lines
  pub printed : AppendsFront written written_after (concat lines)

-- What was written are the lines of all commands that were handed over: what came behind them is a front of a command, and not
-- all of it.
pub record PrintsWhole (s : Setting) (stream stream_after written written_after : Option (List ℕ)) : Type 0 where
  pub place : ℕ
  pub lines : List (List ℕ)
  pub shelves : Shelves
  pub left : Option (List ℕ)
  pub plays : Plays s stream place lines shelves left
  pub waits : Waits left stream_after []
  pub printed : Appends written written_after (concat lines)

-- What was written are the lines of all commands before a `sync`: the next command that was handed over, and not done.
pub record PrintsToSync (s : Setting) (stream written written_after : Option (List ℕ)) : Type 0 where
  pub place : ℕ
  pub count : ℕ
  pub lines : List (List ℕ)
  pub shelves : Shelves
  pub left : Option (List ℕ)
  pub rest : Option (List ℕ)
  pub prefix : List ℕ
  pub plays : Plays s stream place lines shelves left
  pub goes : GoesOn left (wires.Sync prefix) count rest
  pub within : place + count ≤ 268435456
  pub printed : Appends written written_after (concat lines)
