use Rattle.std.proofs.Common.{◌≡◌, ◌++◌, take}
use Rattle.std.specs.List.{flat_map}
use Rattle.flow_edges.specs.Flow.{hop}
use Rattle.flow_edges.proofs.traversal.follow.Given as goal

abbrev pub invariant-loop-route : goal.invariant-loop-route
invariant-loop-route l = l.points ≡ l.next ++ flat_map hop (take l.route-index l.routes)
