-- Whether a whole file may have members of a pattern.
use Rattle.std.specs.Prelude.{◌≡◌, ◌⊎◌, List, [], Option, None, Some}
use Rattle.node_tree.specs.declared.known.Known.{Known}
use Rattle.node_tree.specs.declared.node.Node.{Node}
use Rattle.node_tree.specs.declared.view.FileView.{FileView}
use Rattle.node_tree.specs.declared.view.Lang.{Lang}
use Rattle.node_tree.specs.declared.view.Lang.TheVariants as langs
use Rattle.node_tree.specs.declared.view.Pattern.{Pattern}
use Rattle.tree_match.specs.declared.leaf.Leaf.TheVariants.{Full}
use Rattle.file_match.specs.Trees.{known_in}
use Rattle.file_match.specs.Words.{MayHave}
use Rattle.import_names.specs.Resolved.{IsResolved, tree_in}
use Rattle.file_parts.specs.Parts.{ResolvesToItself}
use Rattle.file_parts.specs.Seen.{seen_leaf}

-- beside a file in Python there is the file with its names resolved, unless that is the same; beside another there is none
abbrev pub IsBeside : FileView → Option FileView → Type 0
IsBeside view None = (view.lang ≡ langs.Python → ⊥) ⊎ ResolvesToItself view
IsBeside view (Some resolved) = (view.lang ≡ langs.Python) × IsResolved view resolved

-- whatever names are known in the tree, the pattern has no member there
abbrev pub HasNone : Lang → Node → Pattern → Type 0
HasNone lang tree pattern = (known : List Known) → seen_leaf lang (known_in tree known) pattern (Full [])

-- the tree of a file in that language may have the pattern, or its tree with names resolved may
abbrev pub MayHaveIn : Lang → Node → Pattern → Type 0
MayHaveIn lang tree pattern = MayHave pattern tree ⊎ MayHave pattern (tree_in lang tree)
