use Rattle.std.proofs.Common.{◌≡◌, ◌++◌, map, take}
use Rattle.node_tree.specs.Numbers.{Numbered}
use Rattle.node_tree.specs.Tree.{span_of}
use Rattle.node_pool.specs.Spots.{all_seen}
use Rattle.taint_trace.proofs.standing.add_spans.Given as goal

abbrev pub invariant-loop-spot : goal.invariant-loop-spot
invariant-loop-spot l = l.into ≡ l.initial.into ++ map (λ (s : Numbered). span_of s.node) (all_seen (take l.spot-index l.spots))
