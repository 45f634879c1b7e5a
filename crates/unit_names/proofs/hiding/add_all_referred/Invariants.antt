use Rattle.std.proofs.Common.{◌≡◌, ◌++◌, length}
use Rattle.std.specs.List.{flat_map}
use Rattle.unit_names.specs.Seen.{all_words}
use Rattle.unit_names.specs.Names as spec
use Rattle.unit_names.proofs.hiding.add_all_referred.Given as goal

abbrev pub invariant-loop-node : goal.invariant-loop-node
invariant-loop-node l = all_words l.initial.into ++ flat_map spec.referred_in l.initial.walk ≡ all_words l.into ++ flat_map spec.referred_in l.walk

abbrev pub decreases-loop-node : goal.decreases-loop-node
decreases-loop-node l = length l.walk
