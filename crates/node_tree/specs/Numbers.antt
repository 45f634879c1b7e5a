-- The numbers of nodes: the place of each in preorder.
use Rattle.std.specs.Prelude.{ℕ, ◌+◌, List, [], ◌∷◌, length}
use Rattle.node_tree.specs.declared.node.Node.{Node}
use Rattle.node_tree.specs.Tree.{pre_of, kids_of}

-- how many nodes a tree has
abbrev pub count_of : Node → ℕ
count_of n = length (pre_of n)

-- a node with its number
pub record Numbered : Type 0 where
  pub at : ℕ
  pub node : Node

-- the root of a tree has the number 0
abbrev pub root_of : Node → Numbered
root_of n = record { at = 0; node = n }

-- siblings with their numbers, where the first has this one
abbrev pub siblings : ℕ → List Node → List Numbered
siblings at [] = []
siblings at (n ∷ ns) = record { at = at; node = n } ∷ siblings (at + count_of n) ns

-- the kids of a node
abbrev pub kids_at : Numbered → List Numbered
kids_at s = siblings (s.at + 1) (kids_of s.node)

-- nodes with numbers, one after the other
abbrev pub numbered : ℕ → List Node → List Numbered
numbered at [] = []
numbered at (n ∷ ns) = record { at = at; node = n } ∷ numbered (at + 1) ns

-- a node and all that is below it, in preorder
abbrev pub pre_at : Numbered → List Numbered
pre_at s = numbered s.at (pre_of s.node)
