-- Trees, without where they lie in memory.
use Rattle.std.specs.Prelude.{ℕ, suc, max, List, [], ◌∷◌, map}
use Rattle.sums.specs.declared.node.Kind.{Kind}
use Rattle.sums.specs.declared.node.Node.{Node, Node-F, fold-Node}

mutual
  pub data Tree : Type 0 where
    node : Kind → ℕ → ℕ → ℕ → Trees → Tree

  pub data Trees : Type 0 where
    no_trees : Trees
    more_trees : Tree → Trees → Trees

abbrev pub trees : List Tree → Trees
trees [] = no_trees
trees (t ∷ ts) = more_trees t (trees ts)

-- the tree of a node
abbrev pub step : Node-F Tree → Tree
step n = node n.kind n.text n.from n.to (trees n.kids.items)

abbrev pub view : Node → Tree
view = fold-Node Tree step

abbrev pub views : List Node → List Tree
views = map view

-- how deep trees are
abbrev mutual
  pub depth : Tree → ℕ
  depth (node k text from to kids) = suc (depths kids)

  pub depths : Trees → ℕ
  depths no_trees = 0
  depths (more_trees t ts) = max (depth t) (depths ts)

abbrev pub depth_all : List Tree → ℕ
depth_all xs = depths (trees xs)
