-- Which names of a file are known to hold literals, by what a reader knows.
use Rattle.std.specs.Prelude.{◌≡◌, List}
use Rattle.node_tree.specs.declared.known.Known.{Known}
use Rattle.node_tree.specs.declared.node.Node.{Node}
use Rattle.node_tree.specs.declared.view.FileView.{FileView}
use Rattle.node_tree.specs.declared.view.Lang.{Lang}

-- which names are known to hold literals in files of a language with a tree
abbrev pub Knows : Type 1
Knows = Lang → Node → List Known → Type 0

-- these names are known there, and no other list is
pub record AreJustKnown (knows : Knows) (lang : Lang) (tree : Node) (known : List Known) : Type 0 where
  pub are : knows lang tree known
  pub only : (others : List Known) → knows lang tree others → others ≡ known

-- the same file, with the names that are known in it
pub record IsNamed (knows : Knows) (bare view : FileView) : Type 0 where
  pub lang_is : view.lang ≡ bare.lang
  pub bytes_are : view.bytes ≡ bare.bytes
  pub tree_is : view.tree ≡ bare.tree
  pub known : AreJustKnown knows bare.lang bare.tree view.known
