-- Trees that are ready for the search.
use Rattle.std.specs.Prelude.{◌≡◌, ℕ, List}
use Rattle.node_tree.specs.declared.known.Known.{Known}
use Rattle.node_tree.specs.declared.node.Node.{Node}
use Rattle.node_tree.specs.Tree.{pre_of}
use Rattle.node_tree.specs.Numbers.{root_of}
use Rattle.file_match.specs.declared.words.Words.{Words}
use Rattle.tree_match.specs.Members.{KnownTree}
use Rattle.tree_match.specs.Starts.{kinds_at}
use Rattle.file_match.specs.Words.{Covers}

-- a pool has the nodes of the tree and nothing else, and these are their kinds and the marks of their words
pub record IsReadyTree (tree : Node) (nodes : List Node) (kinds : List ℕ) (words : Words) : Type 0 where
  pub placed : nodes ≡ pre_of tree
  pub kinds_are : kinds ≡ kinds_at (root_of tree)
  pub words_are : Covers words.count words.marks.items (pre_of tree)

-- a tree, with names of it that are known to hold a literal
abbrev pub known_in : Node → List Known → KnownTree
known_in tree known = record { tree = tree; known = known }
