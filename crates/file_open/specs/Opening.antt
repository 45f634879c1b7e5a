-- What the bytes of a file are.
use Rattle.std.specs.Prelude.{◌≡◌, ◌<◌, ◌≤◌, ℕ, List, [], length}
use Rattle.std.specs.Str.{IsUtf8}
use Rattle.node_tree.specs.declared.node.Node.{Node}
use Rattle.node_tree.specs.Spans.{SpansLieIn}
use Rattle.node_tree.specs.declared.view.FileView.{FileView}
use Rattle.node_tree.specs.declared.view.Lang.{Lang}
use Rattle.node_tree.specs.declared.view.Lang.TheVariants.{Regex}
use Rattle.node_tree.specs.declared.limits.TheConstants.{MOST_BYTES}
use Rattle.file_open.specs.declared.opened.TextTree.{TextTree}
use Rattle.file_open.specs.declared.opened.TextTree.TheVariants as trees
use Rattle.file_open.specs.declared.opened.Opened.{Opened}
use Rattle.file_open.specs.declared.opened.Opened.TheVariants.{TooLarge, NotUtf8, NoTree, Read}
use Rattle.file_open.specs.Reading.{Spells, plain_tree, IsTreeIn, HasNoTree}

-- the file has these bytes and this tree, and no name in it is known to hold a literal
pub record IsView (lang : Lang) (bytes : List ℕ) (tree : Node) (view : FileView) : Type 0 where
  pub lang_is : view.lang ≡ lang
  pub bytes_are : view.bytes ≡ bytes
  pub tree_is : view.tree ≡ tree
  pub nothing_known : view.known ≡ []

-- the text has the tree in the language, or it has none and the tree is the plain one
abbrev pub IsTextTree : Spells → Lang → List ℕ → TextTree → Type 0
IsTextTree spells lang text (trees.Read tree) = IsTreeIn spells lang text tree
IsTextTree spells lang text (trees.Plain tree) = HasNoTree spells lang text × (tree ≡ plain_tree text)

-- it has no other tree in the language
abbrev pub HasOnlyTextTree : Spells → Lang → List ℕ → TextTree → Type 0
HasOnlyTextTree spells lang text (trees.Read tree) = (other : Node) → IsTreeIn spells lang text other → other ≡ tree
HasOnlyTextTree spells lang text (trees.Plain tree) = Unit {0}

-- the tree's spans lie in the text
abbrev pub IsPlaced : List ℕ → TextTree → Type 0
IsPlaced text (trees.Read tree) = SpansLieIn text tree
IsPlaced text (trees.Plain tree) = SpansLieIn text tree

-- the bytes are a text of at most so many bytes as a file that is scanned may have
abbrev pub IsSmallText : List ℕ → Type 0
IsSmallText bytes = (length bytes ≤ MOST_BYTES) × IsUtf8 bytes

-- The bytes are too many, or else no UTF-8, or else a text without a tree in the language, or a text with one. A text without
-- a tree is opened as one that is only searched.
abbrev pub IsOpened : Spells → Lang → List ℕ → Opened → Type 0
IsOpened spells lang bytes TooLarge = MOST_BYTES < length bytes
IsOpened spells lang bytes NotUtf8 = (length bytes ≤ MOST_BYTES) × (IsUtf8 bytes → ⊥)
IsOpened spells lang bytes (NoTree view) = IsSmallText bytes × HasNoTree spells lang bytes × IsView Regex bytes (plain_tree bytes) view
IsOpened spells lang bytes (Read view) = IsSmallText bytes × IsTreeIn spells lang bytes view.tree × IsView lang bytes view.tree view

-- the text of a file that was read has no tree but the file's
abbrev pub HasOnlyTree : Spells → Lang → List ℕ → Opened → Type 0
HasOnlyTree spells lang bytes (Read view) = (tree : Node) → IsTreeIn spells lang bytes tree → tree ≡ view.tree
HasOnlyTree spells lang bytes _ = Unit {0}
