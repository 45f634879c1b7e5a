use Rattle.std.proofs.Common.{◌≡◌, map, take}
use Rattle.flow_graph.specs.Keys.{edge_of}
use Rattle.flow_graph.proofs.arrange.decoded_edges.Given as goal

abbrev pub invariant-loop-code : goal.invariant-loop-code
invariant-loop-code l = l.edges ≡ map edge_of (take l.code-index l.codes)
