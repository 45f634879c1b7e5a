use Rattle.std.proofs.Common.{◌≡◌, ◌++◌}
use Rattle.std.specs.List.{flat_map}
use Rattle.import_names.specs.Claims as spec
use Rattle.import_names.proofs.say.claims_of.Given as goal

abbrev pub invariant-loop-node : goal.invariant-loop-node
invariant-loop-node l = spec.claims_of l.tree ≡ l.claims.items ++ flat_map spec.own_claims l.node-iterator
