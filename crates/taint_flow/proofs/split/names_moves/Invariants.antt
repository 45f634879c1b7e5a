use Rattle.std.proofs.Common.{◌≡◌, ℕ, length, Some}
use Rattle.std.specs.Prelude.{slice_get}
use Rattle.flow_reach.specs.declared.moves.Move.{Move}
use Rattle.taint_flow.specs.Splits.{TurnsNames}
use Rattle.taint_flow.proofs.split.names_moves.Given as goal

abbrev pub invariant-loop-row : goal.invariant-loop-row
invariant-loop-row l = record {
  size : length l.rows ≡ l.row-index;
  each : (i : ℕ) (row named : Move) → slice_get l.row-items i ≡ Some row → slice_get l.rows i ≡ Some named → TurnsNames l.sources row named;
}
