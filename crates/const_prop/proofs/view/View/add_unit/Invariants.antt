use Rattle.std.proofs.Common.{◌≡◌, ◌++◌, take}
use Rattle.const_prop.specs.Settled.{all_sightings}
use Rattle.const_prop.specs.Views.{sightings_from, held_at}
use Rattle.const_prop.proofs.view.View.add_unit.Given as goal

abbrev pub invariant-loop-place : goal.invariant-loop-place
invariant-loop-place l = all_sightings l.into.items ≡ all_sightings l.initial.into.items ++ sightings_from l.tree (held_at l.self) 0 (take l.place l.point-items)
