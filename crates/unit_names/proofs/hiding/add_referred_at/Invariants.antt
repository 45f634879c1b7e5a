use Rattle.std.proofs.Common.{◌≡◌, ◌++◌, take}
use Rattle.std.specs.List.{flat_map}
use Rattle.unit_names.specs.Seen.{all_words}
use Rattle.unit_names.specs.Names as spec
use Rattle.node_pool.specs.Spots.{all_seen}
use Rattle.node_tree.specs.Numbers.{Numbered}
use Rattle.unit_names.proofs.hiding.add_referred_at.Given as goal

abbrev pub invariant-loop-spot : goal.invariant-loop-spot
invariant-loop-spot l = all_words l.into ≡ all_words l.initial.into ++ flat_map (λ (s : Numbered). spec.referred_in s.node) (all_seen (take l.spot-index l.spot-items))
