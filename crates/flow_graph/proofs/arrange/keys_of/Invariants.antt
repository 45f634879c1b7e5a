use Rattle.std.proofs.Common.{◌≡◌, ◌<◌, ◌^◌, ℕ, map, take}
use Rattle.graph_form.specs.Sets.{Among}
use Rattle.flow_graph.specs.Keys.{key_of}
use Rattle.flow_graph.proofs.arrange.keys_of.Given as goal

abbrev pub invariant-loop-point : goal.invariant-loop-point
invariant-loop-point l = record {
  keys : l.keys.items ≡ map key_of (take l.point-index l.points);
  small : (k : ℕ) → Among l.keys.items k → k < 2 ^ 35;
}
