use Rattle.std.proofs.Common.{◌≡◌, ◌++◌, take}
use Rattle.std.specs.List.{flat_map}
use Rattle.node_tree.specs.Numbers.{Numbered, kids_at}
use Rattle.node_pool.specs.Spots.{all_seen}
use Rattle.point_nodes.specs.Tops.{part}
use Rattle.point_nodes.proofs.belonging.add_defaults.Given as goal

abbrev pub invariant-loop-parameter : goal.invariant-loop-parameter
invariant-loop-parameter l = all_seen l.into ≡ all_seen l.initial.into ++ flat_map (λ (parameter : Numbered). part 2 (kids_at parameter)) (all_seen (take l.parameter-index l.parameters))
