-- The line of all kids of a node.
use Rattle.std.proofs.Common.{◌≡◌, List, ap}
use Rattle.node_tree.specs.Numbers.{Numbered}
use Rattle.node_pool.specs.Spots.{seen}
use Rattle.node_search.specs.declared.holder.Holder.{Holder}
use Rattle.node_search.specs.States.{line_of}
use Rattle.node_search.specs.Kids.{AreKids, line}

-- the line of all kids
pub whole_line : (holder : Holder) → AreKids holder.kids.now (seen holder.spot) → line holder ≡ line_of (seen holder.spot)
whole_line holder kin = ap (λ (ks : List Numbered). record { holder = seen holder.spot; kids = ks }) kin.are
