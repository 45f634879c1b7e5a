use Rattle.std.proofs.Common.{◌≡◌, ◌++◌, map, drop}
use Rattle.file_results.specs.Followed.{stop_among}
use Rattle.file_results.proofs.tracing.stops_at.Given as goal

abbrev pub invariant-loop-point : goal.invariant-loop-point
invariant-loop-point l = l.stops ++ map (stop_among l.tree) (drop l.point-index l.points) ≡ map (stop_among l.tree) l.points
