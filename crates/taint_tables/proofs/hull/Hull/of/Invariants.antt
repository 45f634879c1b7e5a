use Rattle.std.proofs.Common.{take}
use Rattle.std.specs.List.{flat_map}
use Rattle.node_tree.specs.Numbers.{pre_at}
use Rattle.node_pool.specs.Spots.{all_seen}
use Rattle.taint_tables.specs.Hulls.{MeetsAll}
use Rattle.taint_tables.proofs.hull.Hull.of.Given as goal

abbrev pub invariant-loop-top : goal.invariant-loop-top
invariant-loop-top l = MeetsAll l.hull (flat_map pre_at (all_seen (take l.top-index l.tops)))
