-- A stream that is read command by command.
use Rattle.std.specs.Prelude.{◌≡◌, ◌<◌, ◌≤◌, ◌+◌, ◌-◌, ℕ, List, length, Bool, Option, Result, Err}
use Rattle.scan_world.specs.Faults.{Rose}
use Rattle.wire_stream.specs.Lines.{Line, IsLine}
use Rattle.wire_stream.specs.Commands.{body_length, IsBody, command_bytes, wire_of, Begins, BeginsNone}
use Rattle.wire_stream.specs.Streams.{Uses, OfStream}
use Rattle.wire_stream.specs.declared.trouble.Trouble.{Trouble}
use Rattle.wire_stream.specs.declared.trouble.Trouble.TheVariants as troubles
use Rattle.wire_stream.specs.declared.wire.Wire.{Wire}
use Rattle.wire_stream.specs.declared.wire.WireFault.{WireFault}
use Rattle.wire_stream.specs.declared.wire.WireFault.TheVariants as faults

-- how many bytes of the stream were used, the bytes in hand, and whether a fault was given
pub record FeedState : Type 0 where
  pub place : ℕ
  pub hand : List ℕ
  pub failed : Bool

-- this command was used, of so many bytes
pub record Used (left_old left_new : Option (List ℕ)) (hand_old hand_new : List ℕ) (wire : Wire) (count : ℕ) : Type 0 where
  pub line : Line
  pub body : List ℕ
  pub good : IsLine line
  pub whole : IsBody (body_length line) body
  pub is : wire ≡ wire_of line body
  pub counted : count ≡ length (command_bytes line body)
  pub uses : Uses left_old left_new hand_old hand_new (command_bytes line body)

-- the next command of the stream was used, which ends within the stream's first 268,435,456 bytes
pub record Next (left_old left_new : Option (List ℕ)) (old new : FeedState) (wire : Wire) : Type 0 where
  pub count : ℕ
  pub used : Used left_old left_new old.hand new.hand wire count
  pub place : new.place ≡ old.place + count
  pub within : new.place ≤ 268435456

-- the stream begins with a command of more bytes than that
pub record BeginsLonger (most : ℕ) (stream : List ℕ) : Type 0 where
  pub line : Line
  pub body : List ℕ
  pub rest : List ℕ
  pub begins : Begins stream line body rest
  pub longer : most < length (command_bytes line body)

-- each fault has its cause
abbrev pub IsFault : Option (List ℕ) → FeedState → WireFault → Type 0
IsFault left feed faults.Memory = Unit {0}
IsFault left feed faults.Failed = Unit {0}
IsFault left feed (faults.Bad at) = (at ≡ feed.place) × OfStream left feed.hand BeginsNone
IsFault left feed (faults.Stream n) = (n ≡ 268435457) × OfStream left feed.hand (BeginsLonger (268435456 - feed.place))

-- a call that a failed read ended has raised the count of faults, and another one leaves it
abbrev pub HasWireCause : ℕ → ℕ → Result Wire WireFault → Type 0
HasWireCause before after (Err faults.Failed) = Rose before after
HasWireCause before after _ = after ≡ before

-- the fault that stops a stream whose command at this place was not read
abbrev pub fault_of : Trouble → ℕ → WireFault
fault_of troubles.Memory place = faults.Memory
fault_of troubles.Failed place = faults.Failed
fault_of troubles.Bad place = faults.Bad place
