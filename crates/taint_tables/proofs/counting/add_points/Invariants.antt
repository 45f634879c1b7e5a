use Rattle.std.proofs.Common.{◌≡◌, ◌++◌, take}
use Rattle.std.specs.List.{flat_map}
use Rattle.taint_tables.specs.Censuses.{texts}
use Rattle.taint_tables.specs.Names.{names_at, spans_at}
use Rattle.taint_tables.proofs.counting.add_points.Given as goal

abbrev pub invariant-loop-point : goal.invariant-loop-point
invariant-loop-point l = record {
  names : texts l.names ≡ texts l.initial.names ++ flat_map (names_at l.tree) (take l.point-index l.points);
  spans : l.spans ≡ l.initial.spans ++ flat_map (spans_at l.tree) (take l.point-index l.points);
}
