-- Lists of kids of a node.
use Rattle.std.specs.Prelude.{◌≡◌, List}
use Rattle.node_pool.specs.declared.spot.Spot.{Spot}
use Rattle.node_tree.specs.Numbers.{Numbered, kids_at}
use Rattle.node_pool.specs.Spots.{seen, all_seen}
use Rattle.node_search.specs.declared.holder.Holder.{Holder}
use Rattle.node_search.specs.States.{Line}

-- these are the kids of the node, in order
pub record AreKids (kids : List Spot) (s : Numbered) : Type 0 where
  pub are : all_seen kids ≡ kids_at s

-- the kids that a search goes along
abbrev pub line : Holder → Line
line h = record { holder = seen h.spot; kids = all_seen h.kids.now }
