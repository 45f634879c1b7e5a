-- Sets of edges that grow.
use Rattle.std.specs.Prelude.{◌≡◌, ◌↔◌, ◌⊎◌, ◌++◌, ◌||◌, List, map}
use Rattle.graph_form.specs.declared.graph.Point.{Point}
use Rattle.flow_edges.specs.declared.transfer.Transfer.{Transfer}
use Rattle.flow_edges.specs.declared.own_cases.Cases.{Cases}
use Rattle.flow_edges.specs.declared.statement.Statement.{Statement}
use Rattle.flow_edges.specs.Flow.{head, has_default}
use Rattle.graph_form.specs.Sets.{Among}

-- the new list has the old transfers and those of the set, and no others
abbrev pub Adds : List Transfer → List Transfer → (Point → Point → Type 0) → Type 0
Adds old new Set = (transfer : Transfer) → Among new transfer ↔ (Among old transfer ⊎ Set transfer.from transfer.to)

-- the points of these cases come too, and a default where one is among them
pub record AddsCases (old new : Cases) (statements : List Statement) : Type 0 where
  pub heads : new.heads ≡ old.heads ++ map head statements
  pub default : new.default ≡ (old.default || has_default statements)
