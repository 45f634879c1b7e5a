use Rattle.std.proofs.Common.{◌≡◌, ◌++◌, take}
use Rattle.std.specs.List.{flat_map}
use Rattle.node_pool.specs.Spots.{all_seen}
use Rattle.taint_tables.specs.Names.{span_here}
use Rattle.taint_trace.proofs.standing.add_all_here.Given as goal

abbrev pub invariant-loop-spot : goal.invariant-loop-spot
invariant-loop-spot l = l.into ≡ l.initial.into ++ flat_map span_here (all_seen (take l.spot-index l.spots))
