use Rattle.std.proofs.Common.{◌≡◌, ℕ, Some, length}
use Rattle.std.specs.Prelude.{slice_get}
use Rattle.std.specs.Global.{Vec}
use Rattle.flow_reach.specs.declared.moves.Move.{Move}
use Rattle.flow_reach.specs.Adds.{IsAddsOf}
use Rattle.flow_reach.proofs.added.adds.Given as goal

abbrev pub invariant-loop-row : goal.invariant-loop-row
invariant-loop-row l = record {
  size : length l.adds.items ≡ l.row-index;
  each : (i : ℕ) (xs : Vec ℕ) → slice_get l.adds.items i ≡ Some xs → (move : Move) × (slice_get l.row-items i ≡ Some move) × IsAddsOf move xs.items;
}
