-- The units of a file with their graphs.
use Rattle.std.specs.Prelude.{◌≡◌, ℕ, List, map}
use Rattle.node_tree.specs.declared.node.Node.{Node}
use Rattle.graph_form.specs.Sets.{Among}
use Rattle.flow_graph.specs.Units.{units_of, points_of, Goes, IsGraphOf}
use Rattle.unit_names.specs.declared.scope.Scope.{Scope}

-- units with these numbers, each with its graph
pub record AreScopesOf (root : Node) (numbers : List ℕ) (scopes : List Scope) : Type 0 where
  pub units : map (λ (s : Scope). s.unit) scopes ≡ numbers
  pub graphs : (s : Scope) → Among scopes s → IsGraphOf (points_of root s.unit) (Goes root s.unit) s.graph

-- the units of a file in order
abbrev pub AreScopes : Node → List Scope → Type 0
AreScopes root scopes = AreScopesOf root (units_of root) scopes
