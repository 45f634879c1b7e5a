-- Files that tell which patterns they may have.
use Rattle.std.specs.Prelude.{◌≡◌}
use Rattle.node_tree.specs.declared.node.Node.{Node}
use Rattle.node_tree.specs.Tree.{pre_of}
use Rattle.file_match.specs.declared.words.Words.{Words}
use Rattle.file_match.specs.Words.{Covers}

-- these are the marks of the words of the tree's nodes among all places
pub record IsReady (tree : Node) (words : Words) : Type 0 where
  pub all : words.count ≡ 65536
  pub words_are : Covers words.count words.marks.items (pre_of tree)
