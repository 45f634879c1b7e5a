use Rattle.std.proofs.Common.{◌≡◌, ◌++◌, take}
use Rattle.std.specs.BTreeSet.{contains}
use Rattle.std.specs.List.{flat_map}
use Rattle.std.specs.Ordering.{nat_cmp}
use Rattle.node_pool.specs.Spots.{all_seen}
use Rattle.const_prop.specs.Settled.{all_sightings}
use Rattle.const_prop.specs.Views.{sighted, held_at}
use Rattle.const_prop.proofs.view.View.add_point.Given as goal

abbrev pub invariant-loop-spot : goal.invariant-loop-spot
invariant-loop-spot l = all_sightings l.into.items ≡ all_sightings l.initial.into.items ++ flat_map (sighted (contains nat_cmp l.targets) (held_at l.self l.place)) (all_seen (take l.spot-index l.spot-items))
