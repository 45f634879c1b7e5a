use Rattle.std.proofs.Common.{◌≡◌, take}
use Rattle.std.specs.List.{flat_map}
use Rattle.node_pool.specs.Spots.{all_seen}
use Rattle.assignments.specs.Declarators.{signature}
use Rattle.assignments.proofs.parameter_names.signatures.Given as goal

abbrev pub invariant-loop-declarator : goal.invariant-loop-declarator
invariant-loop-declarator l = all_seen l.lists ≡ flat_map signature (all_seen (take l.declarator-index l.declarators))
