-- Places in a pool.
use Rattle.std.specs.Prelude.{List, map}
use Rattle.node_pool.specs.declared.spot.Spot.{Spot}
use Rattle.node_tree.specs.Numbers.{Numbered}

-- what contracts see of a place
abbrev pub seen : Spot → Numbered
seen s = record { at = s.at; node = s.node.now }

abbrev pub all_seen : List Spot → List Numbered
all_seen = map seen
