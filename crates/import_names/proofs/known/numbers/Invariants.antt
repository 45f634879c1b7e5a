use Rattle.std.proofs.Common.{◌≡◌, ◌++◌}
use Rattle.node_tree.specs.Tree.{pre_of}
use Rattle.import_names.specs.Claims.{meaning}
use Rattle.import_names.specs.Resolved as spec
use Rattle.import_names.proofs.known.numbers.Given as goal

abbrev pub invariant-loop-node : goal.invariant-loop-node
invariant-loop-node l = spec.numbers (meaning l.claims) 0 (pre_of l.tree) ≡ l.numbers.items ++ spec.numbers (meaning l.claims) l.at l.node-iterator
