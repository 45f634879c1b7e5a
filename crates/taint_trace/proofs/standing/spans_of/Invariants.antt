use Rattle.std.proofs.Common.{◌≡◌, take}
use Rattle.std.specs.List.{flat_map}
use Rattle.taint_tables.specs.Names.{spans_at}
use Rattle.taint_trace.proofs.standing.spans_of.Given as goal

abbrev pub invariant-loop-point : goal.invariant-loop-point
invariant-loop-point l = l.spans ≡ flat_map (spans_at l.tree) (take l.point-index l.point-items)
