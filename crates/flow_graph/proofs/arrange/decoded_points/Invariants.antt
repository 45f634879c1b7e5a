use Rattle.std.proofs.Common.{◌≡◌, map, take}
use Rattle.flow_graph.specs.Keys.{decoded}
use Rattle.flow_graph.proofs.arrange.decoded_points.Given as goal

abbrev pub invariant-loop-key : goal.invariant-loop-key
invariant-loop-key l = l.points ≡ map decoded (take l.key-index l.keys)
