-- The leaf of a pattern in a file, seen through the file's imports.
use Rattle.node_tree.specs.declared.view.Lang.{Lang}
use Rattle.node_tree.specs.declared.view.Lang.TheVariants as langs
use Rattle.node_tree.specs.declared.view.Pattern.{Pattern}
use Rattle.tree_match.specs.declared.leaf.Leaf.{Leaf}
use Rattle.tree_match.specs.Leaf.{IsLeaf}
use Rattle.tree_match.specs.Members.{KnownTree, IsMember}
use Rattle.import_names.specs.Resolved.{tree_in, known_in}
use Rattle.place_join.specs.Joined.{IsJoined}

-- the tree of a file in that language with its names resolved
abbrev pub resolved_tree : Lang → KnownTree → KnownTree
resolved_tree lang file = record { tree = tree_in lang file.tree; known = known_in lang file.tree file.known }

-- the leaf in one tree, joined by place with that in the other
pub record IsJoinedLeaf (file resolved : KnownTree) (pattern : Pattern) (leaf : Leaf) : Type 0 where
  pub plain : Leaf
  pub further : Leaf
  pub plain_is : IsLeaf (IsMember pattern file) plain
  pub further_is : IsLeaf (IsMember pattern resolved) further
  pub joined : IsJoined plain further leaf

-- the leaf of a pattern in a file of that language: in Python that in the file joined by place with that in the file with its
-- names resolved, in any other language that in the file
abbrev pub seen_leaf : Lang → KnownTree → Pattern → Leaf → Type 0
seen_leaf langs.Python file pattern leaf = IsJoinedLeaf file (resolved_tree langs.Python file) pattern leaf
seen_leaf _ file pattern leaf = IsLeaf (IsMember pattern file) leaf
