use Rattle.std.proofs.Common.{◌≡◌, ◌++◌, take}
use Rattle.std.specs.List.{flat_map}
use Rattle.node_tree.specs.declared.node.Node.{Node}
use Rattle.import_names.specs.Claims as spec
use Rattle.import_names.proofs.ids.add_plain_ids.Given as goal

abbrev pub invariant-loop-node : goal.invariant-loop-node
invariant-loop-node l = l.into.items ≡ l.initial.into.items ++ flat_map (λ (n : Node). spec.plain_in (spec.id_of n)) (take l.node-index l.nodes)
