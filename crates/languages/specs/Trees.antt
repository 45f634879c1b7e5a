-- Which trees texts have, and which names are known in them.
use Rattle.std.specs.Prelude.{◌≡◌, ℕ, List, []}
use Rattle.node_tree.specs.declared.known.Known.{Known}
use Rattle.node_tree.specs.declared.node.Node.{Node}
use Rattle.node_tree.specs.declared.view.Lang.{Lang}
use Rattle.node_tree.specs.declared.view.Lang.TheVariants.{Json, Python, C, Regex}
use Rattle.node_tree.specs.declared.view.Mode.TheVariants.{Text}
use Rattle.json_tree.specs.Spells.{IsTreeOf}
use Rattle.py_stmt.specs.Modules.{IsModule}
use Rattle.c_unit.specs.Units.{IsUnit}
use Rattle.const_prop.specs.Constants.{AreConstants}

-- the text is a file of the language with this tree; none is one of the language of texts alone
abbrev pub IsTree : Lang → List ℕ → Node → Type 0
IsTree Json text tree = IsTreeOf Text text tree
IsTree Python text tree = IsModule text tree
IsTree C text tree = IsUnit text tree
IsTree Regex text tree = ⊥

-- the names that are known to hold a literal in a file of the language with that tree: the constants in Python and C, else none
abbrev pub AreKnown : Lang → Node → List Known → Type 0
AreKnown Python tree known = AreConstants tree known
AreKnown C tree known = AreConstants tree known
AreKnown _ tree known = known ≡ []
