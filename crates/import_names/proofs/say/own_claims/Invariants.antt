use Rattle.std.proofs.Common.{◌≡◌, ◌++◌}
use Rattle.std.specs.List.{flat_map}
use Rattle.node_tree.specs.Tree.{pre_of}
use Rattle.import_names.specs.Claims as spec
use Rattle.import_names.proofs.say.own_claims.Given as goal

abbrev pub invariant-loop-node : goal.invariant-loop-node
invariant-loop-node l = flat_map spec.own_claims (pre_of l.tree) ≡ l.claims.items ++ flat_map spec.own_claims l.node-iterator
