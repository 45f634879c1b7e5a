-- What was read and written.
use Rattle.std.specs.Prelude.{◌≡◌, ◌≤◌, ℕ, List, ◌++◌, length, take, Option, Some, None, ⊤}
use Rattle.std.specs.List.{concat}
use Rattle.std.specs.Io.KnownBytes.{Consumes, Appends}

-- a source that tells the bytes that it has tells these
abbrev pub Tells : Option (List ℕ) → List ℕ → Type 0
Tells None bytes = ⊤
Tells (Some told) bytes = told ≡ bytes

-- an input that is told is these bytes, and they are at most 1,000,000
pub record IsTarget (left : Option (List ℕ)) (bytes : List ℕ) : Type 0 where
  pub told : Tells left bytes
  pub short : length bytes ≤ 1000000

-- an input that is told has more bytes than that
pub record IsTooLong (left : Option (List ℕ)) : Type 0 where
  pub input : List ℕ
  pub told : Tells left input
  pub long : 1000001 ≤ length input

-- the bytes grew by a piece of so many bytes, which was read
abbrev pub TakesPiece : Option (List ℕ) → Option (List ℕ) → List ℕ → List ℕ → ℕ → Type 0
TakesPiece left_old left_new old new n = (piece : List ℕ) × (new ≡ old ++ piece) × (length piece ≡ n) × Consumes left_old left_new piece
