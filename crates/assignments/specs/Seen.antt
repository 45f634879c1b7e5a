-- What contracts see of assignments: names and nodes themselves, and not references to them.
use Rattle.std.specs.Prelude.{ℕ, List, Option, map}
use Rattle.std.specs.Option.{option_map}
use Rattle.std.specs.Borrow.{Bor}
use Rattle.node_tree.specs.declared.node.Node.{Node}
use Rattle.assignments.specs.declared.assignment.Assignment.{Assignment}
use Rattle.assignments.specs.declared.assignment.Manner.{Manner}
use Rattle.assignments.specs.declared.assignment.Reach.{Reach}
use Rattle.assignments.specs.declared.assignment.Target.{Target}

-- a name that is assigned, with the number of the node that writes it
pub record Named : Type 0 where
  pub at : ℕ
  pub name : List ℕ
  pub reach : Reach

-- what a node assigns
pub record Assigned : Type 0 where
  pub manner : Manner
  pub value : Option Node
  pub targets : List Named

abbrev pub seen_target : Target → Named
seen_target t = record { at = t.at; name = t.name.now; reach = t.reach }

abbrev pub all_targets : List Target → List Named
all_targets = map seen_target

abbrev pub seen_value : Option (Bor Node) → Option Node
seen_value = option_map (λ (n : Bor Node). n.now)

abbrev pub seen_assignment : Assignment → Assigned
seen_assignment a = record { manner = a.manner; value = seen_value a.value; targets = all_targets a.targets }

abbrev pub all_assignments : List Assignment → List Assigned
all_assignments = map seen_assignment
