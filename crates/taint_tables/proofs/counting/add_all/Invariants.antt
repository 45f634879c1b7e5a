use Rattle.std.proofs.Common.{◌≡◌, ◌++◌, map, take}
use Rattle.node_tree.specs.Numbers.{Numbered}
use Rattle.node_tree.specs.Tree.{text_of, span_of}
use Rattle.node_pool.specs.Spots.{all_seen}
use Rattle.taint_tables.specs.Censuses.{texts}
use Rattle.taint_tables.proofs.counting.add_all.Given as goal

abbrev pub invariant-loop-spot : goal.invariant-loop-spot
invariant-loop-spot l = record {
  names : texts l.names ≡ texts l.initial.names ++ map (λ (s : Numbered). text_of s.node) (all_seen (take l.spot-index l.spots));
  spans : l.spans ≡ l.initial.spans ++ map (λ (s : Numbered). span_of s.node) (all_seen (take l.spot-index l.spots));
}
