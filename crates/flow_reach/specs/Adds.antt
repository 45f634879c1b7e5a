-- Added pairs as numbers in order.
use Rattle.std.specs.Prelude.{◌≡◌, ◌↔◌, ◌/◌, ◌%◌, ◌<◌, ◌≤◌, ℕ, List, length, slice_index, slice_get, Some}
use Rattle.std.specs.Global.{Vec}
use Rattle.graph_form.specs.Sets.{Among}
use Rattle.flow_reach.specs.declared.moves.Move.{Move}

-- the numbers don't fall
abbrev pub Ascends : List ℕ → Type 0
Ascends xs = (i j : ℕ) → i ≤ j → j < length xs → slice_index xs i ≤ slice_index xs j

-- the number of a pair
abbrev pub Codes : ℕ → ℕ → ℕ → Type 0
Codes x first second = (x / 4294967296 ≡ first) × (x % 4294967296 ≡ second)

-- one of the numbers below that place is the pair's
abbrev pub CodedTo : List ℕ → ℕ → ℕ → ℕ → Type 0
CodedTo xs n first second = (k : ℕ) × (k < n) × (k < length xs) × Codes (slice_index xs k) first second

-- one of the numbers is the pair's
abbrev pub Coded : List ℕ → ℕ → ℕ → Type 0
Coded xs first second = (x : ℕ) × Among xs x × Codes x first second

-- the numbers are those of the pairs that the point adds, in order
pub record IsAddsOf (move : Move) (xs : List ℕ) : Type 0 where
  pub pairs : (first second : ℕ) → Coded xs first second ↔ Among move.adds (first, second)
  pub ascends : Ascends xs

-- the same for each point
pub record AreAdds (moves : List Move) (adds : List (Vec ℕ)) : Type 0 where
  pub size : length adds ≡ length moves
  pub each : (i : ℕ) (xs : Vec ℕ) → slice_get adds i ≡ Some xs → (move : Move) × (slice_get moves i ≡ Some move) × IsAddsOf move xs.items
