-- What the search in a unit rests on.
use Rattle.std.specs.Prelude.{◌≡◌, ◌<◌, ℕ, List}
use Rattle.node_tree.specs.declared.node.Node.{Node}
use Rattle.node_tree.specs.Tree.{pre_of}
use Rattle.flow_graph.specs.Units.{points_of, Goes, IsGraphOf}
use Rattle.unit_names.specs.declared.scope.Scope.{Scope}
use Rattle.taint_tables.specs.declared.sets.TaintSets.{TaintSets}
use Rattle.taint_flow.specs.Sizes.{size_of, start_of}

-- the nodes are those of the tree, and the unit is one of it with its graph
pub record IsScope (root : Node) (nodes : List Node) (scope : Scope) : Type 0 where
  pub nodes_are : nodes ≡ pre_of root
  pub graph : IsGraphOf (points_of root scope.unit) (Goes root scope.unit) scope.graph

-- the unit is too large, and begins there
abbrev pub IsLargeAt : Node → ℕ → TaintSets → ℕ → Type 0
IsLargeAt root unit sets at = (50000000 < size_of root unit sets) × (at ≡ start_of root unit)
