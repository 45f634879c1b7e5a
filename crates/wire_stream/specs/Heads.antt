-- Commands without their bodies.
use Rattle.std.specs.Prelude.{◌≡◌, ◌<◌, ◌≢◌, ℕ, List, [], ◌∷◌, ◌++◌, length, slice_index, Option, None}
use Rattle.wire_stream.specs.Lines.{Line, Put, Rule}
use Rattle.wire_stream.specs.Commands.{body_length, IsBody, body_bytes, wire_of}
use Rattle.wire_stream.specs.Streams.{Uses}
use Rattle.wire_stream.specs.declared.head.Head.{Head}
use Rattle.wire_stream.specs.declared.head.Head.TheVariants as heads
use Rattle.wire_stream.specs.declared.wire.Wire.{Wire}

-- the command of a line, as far as the line tells it
abbrev pub IsHead : Line → Head → Type 0
IsHead line (heads.Whole wire) = (body_length line ≡ None) × (wire ≡ wire_of line [])
IsHead line (heads.Put n path) = line ≡ Put n path
IsHead line (heads.Rule n name) = line ≡ Rule n name

-- the byte stands nowhere among the bytes
abbrev pub Lacks : ℕ → List ℕ → Type 0
Lacks byte [] = Unit {0}
Lacks byte (b ∷ bs) = (b ≢ byte) × Lacks byte bs

-- the first end of a line stands at that place
pub record IsLineEnd (bytes : List ℕ) (end : ℕ) : Type 0 where
  pub within : end < length bytes
  pub is : slice_index bytes end ≡ 10
  pub first : (i : ℕ) → i < end → slice_index bytes i ≢ 10

-- what follows a line is its body with its end
pub record IsRest (left_old left_new : Option (List ℕ)) (hand_old hand_new : List ℕ) (line : Line) (wire : Wire) (count : ℕ) : Type 0 where
  pub body : List ℕ
  pub whole : IsBody (body_length line) body
  pub is : wire ≡ wire_of line body
  pub counted : count ≡ length (body_bytes (body_length line) body)
  pub uses : Uses left_old left_new hand_old hand_new (body_bytes (body_length line) body)

-- what follows a line is no body with its end
abbrev pub IsNoRest : Line → List ℕ → Type 0
IsNoRest line stream = (body rest : List ℕ) → IsBody (body_length line) body → stream ≡ body_bytes (body_length line) body ++ rest → ⊥
