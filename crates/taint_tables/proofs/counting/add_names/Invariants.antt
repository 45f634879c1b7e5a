use Rattle.std.proofs.Common.{◌≡◌, ◌++◌, take}
use Rattle.std.specs.List.{flat_map}
use Rattle.node_pool.specs.Spots.{all_seen}
use Rattle.taint_tables.specs.Censuses.{texts}
use Rattle.taint_tables.specs.Names.{name_of}
use Rattle.taint_tables.proofs.counting.add_names.Given as goal

abbrev pub invariant-loop-spot : goal.invariant-loop-spot
invariant-loop-spot l = texts l.into ≡ texts l.initial.into ++ flat_map name_of (all_seen (take l.spot-index l.spots))
