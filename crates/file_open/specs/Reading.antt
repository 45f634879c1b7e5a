-- Which trees texts have, by what a reader spells.
use Rattle.std.specs.Prelude.{◌≡◌, ℕ, List, [], length}
use Rattle.node_tree.specs.declared.kind.Kind.TheVariants.{Root}
use Rattle.node_tree.specs.declared.node.Node.{Node, roll-Node}
use Rattle.node_tree.specs.declared.view.Lang.{Lang}
use Rattle.node_tree.specs.declared.view.Lang.TheVariants.{Json, Python, C, Regex}

-- which texts are files of a language, with which trees
abbrev pub Spells : Type 1
Spells = Lang → List ℕ → Node → Type 0

-- one node without kids, over the whole text
abbrev pub plain_tree : List ℕ → Node
plain_tree text = roll-Node (record { kind = Root; text = []; kids = []; span = record { from = 0; to = length text } })

-- the text has this tree in the language; a text that is only searched has the plain one
abbrev pub IsTreeIn : Spells → Lang → List ℕ → Node → Type 0
IsTreeIn spells Json text tree = spells Json text tree
IsTreeIn spells Python text tree = spells Python text tree
IsTreeIn spells C text tree = spells C text tree
IsTreeIn spells Regex text tree = tree ≡ plain_tree text

-- it has none
abbrev pub HasNoTree : Spells → Lang → List ℕ → Type 0
HasNoTree spells lang text = (tree : Node) → IsTreeIn spells lang text tree → ⊥
