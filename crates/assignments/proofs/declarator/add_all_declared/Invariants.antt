use Rattle.std.proofs.Common.{◌≡◌, ◌++◌, take}
use Rattle.std.specs.List.{flat_map}
use Rattle.node_pool.specs.Spots.{all_seen}
use Rattle.assignments.specs.Declarators.{declared}
use Rattle.assignments.proofs.declarator.add_all_declared.Given as goal

abbrev pub invariant-loop-declarator : goal.invariant-loop-declarator
invariant-loop-declarator l = all_seen l.into ≡ all_seen l.initial.into ++ flat_map declared (all_seen (take l.declarator-index l.declarators))
