-- Which file bytes are.
use Rattle.std.specs.Prelude.{◌≡◌, ℕ, List}
use Rattle.node_tree.specs.declared.node.Node.{Node}
use Rattle.node_tree.specs.declared.view.Lang.{Lang}
use Rattle.file_open.specs.Reading.{IsTreeIn}
use Rattle.file_open.specs.Opening.{IsSmallText}
use Rattle.languages.specs.Trees.{IsTree}

-- the bytes, at most 1,000,000, are a text of the language with this tree
pub record IsFileOf (lang : Lang) (bytes : List ℕ) (tree : Node) : Type 0 where
  pub is_text : IsSmallText bytes
  pub is_tree : IsTreeIn IsTree lang bytes tree

-- they are no other file
abbrev pub IsOnlyFile : Lang → List ℕ → Node → Type 0
IsOnlyFile lang bytes tree = (other : Node) → IsFileOf lang bytes other → other ≡ tree

abbrev pub HasNoFile : Lang → List ℕ → Type 0
HasNoFile lang bytes = (tree : Node) → IsFileOf lang bytes tree → ⊥
