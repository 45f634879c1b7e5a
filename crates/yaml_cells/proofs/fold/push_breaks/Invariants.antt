use Rattle.std.proofs.Common.{◌≡◌, ◌++◌}
use Rattle.yaml_cells.specs.Fold.{breaks}
use Rattle.yaml_cells.proofs.fold.push_breaks.Given as goal

abbrev pub invariant-loop-turn : goal.invariant-loop-turn
invariant-loop-turn l = l.content ≡ l.initial.content ++ breaks l.turn
