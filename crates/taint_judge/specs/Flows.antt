-- What it takes to follow data in a tree.
use Rattle.std.specs.Prelude.{◌≡◌, List, Option, IfSome}
use Rattle.node_tree.specs.declared.node.Node.{Node}
use Rattle.node_tree.specs.Tree.{pre_of}
use Rattle.unit_names.specs.declared.scope.Scope.{Scope}
use Rattle.unit_names.specs.Scopes.{AreScopes}
use Rattle.taint_flow.specs.declared.sizes.Bounds.{Bounds}
use Rattle.taint_flow.specs.Bounds.{AreBounds}

-- these are the nodes of the tree in preorder, and its units with their graphs
pub record IsFlowOf (root : Node) (nodes : List Node) (units : List Scope) : Type 0 where
  pub nodes_are : nodes ≡ pre_of root
  pub units_are : AreScopes root units

-- no unit of the tree is larger than the bounds say, and the closer ones, if there are any, and what was made is of the tree
pub record IsShared (root : Node) (bounds closer : Option Bounds) (made : Option Node) : Type 0 where
  pub bounds_are : IfSome bounds (AreBounds root)
  pub closer_are : IfSome closer (AreBounds root)
  pub made_is : IfSome made (λ tree. tree ≡ root)
