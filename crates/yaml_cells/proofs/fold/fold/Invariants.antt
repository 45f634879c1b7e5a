use Rattle.std.proofs.Common.{◌≡◌, ◌++◌, ◌≤◌, drop}
use Rattle.yaml_cells.specs.Fold.{folded, folded_from}
use Rattle.yaml_cells.proofs.fold.fold.Given as goal

abbrev pub invariant-loop-at : goal.invariant-loop-at
invariant-loop-at l = record {
  said : folded l.lines ≡ l.content ++ folded_from l.gap l.spaced (drop l.at l.lines);
  gap : l.gap ≤ l.at;
}
