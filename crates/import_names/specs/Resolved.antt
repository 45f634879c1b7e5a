-- Views of files in which names that stand for dotted names are replaced by these.
use Rattle.std.specs.Prelude.{◌≡◌, ℕ, ◌+◌, ◌-◌, ◌*◌, nat_lt, if◌then◌else◌, List, [], ◌∷◌, length, slice_get, Option, Some, None, codes}
use Rattle.std.specs.List.{flat_map}
use Rattle.node_tree.specs.declared.node.Node.{Node, roll-Node, fold-Node}
use Rattle.node_tree.specs.declared.kind.Kind.{Kind}
use Rattle.node_tree.specs.declared.kind.Kind.TheVariants as kinds
use Rattle.node_tree.specs.declared.known.Known.{Known}
use Rattle.node_tree.specs.declared.span.Span.{Span}
use Rattle.node_tree.specs.declared.view.FileView.{FileView}
use Rattle.node_tree.specs.declared.view.Lang.{Lang}
use Rattle.node_tree.specs.declared.view.Lang.TheVariants as langs
use Rattle.node_tree.specs.Tree.{pre_of, kind_of, text_of, kids_of, span_of}
use Rattle.import_names.specs.Claims.{claims_of, meaning}

-- ---- a dotted name as a tree

-- a node without kids
abbrev pub leaf : Kind → List ℕ → Span → Node
leaf kind text span = roll-Node (record { kind = kind; text = text; kids = []; span = span })

abbrev pub attribute : Node → List ℕ → Span → Node
attribute object name span = roll-Node (record { kind = kinds.Attr; text = codes "."; kids = object ∷ leaf kinds.Id name span ∷ []; span = span })

-- attributes one round the other, all with the same span
abbrev pub attributes : Node → List (List ℕ) → Span → Node
attributes object [] span = object
attributes object (name ∷ names) span = attributes (attribute object name span) names span

-- a dotted name in the place of a node, which stays where there is none
abbrev pub instead : List (List ℕ) → Node → Node
instead [] n = n
instead (name ∷ names) n = attributes (leaf kinds.Name name (span_of n)) names (span_of n)

-- ---- the tree

-- what a node stands for, if names stand for these: one without kids that is a name
abbrev pub meant : {X : Type 0} → (List ℕ → List (List ℕ)) → Kind → List ℕ → List X → List (List ℕ)
meant means kinds.Name text [] = means text
meant means _ text kids = []

abbrev pub meant_at : (List ℕ → List (List ℕ)) → Node → List (List ℕ)
meant_at means n = meant means (kind_of n) (text_of n) (kids_of n)

-- a tree with each name replaced by what it stands for
unfoldable pub replaced : (List ℕ → List (List ℕ)) → Node → Node
replaced means =
    fold-Node Node (λ x. instead (meant means x.kind x.text x.kids) (roll-Node (record { kind = x.kind; text = x.text; kids = x.kids; span = x.span })))

-- ---- known constants

-- each part after the first adds an attribute and its name
abbrev pub added : List (List ℕ) → ℕ
added parts = 2 * (length parts - 1)

-- the number of a name, unless an attribute stands in its place; what is no name has none
abbrev pub number_by : Kind → List (List ℕ) → ℕ → Option ℕ
number_by kinds.Name parts at = if nat_lt 1 (length parts) then None else Some at
number_by _ parts at = None

-- the numbers that names get, of these nodes in preorder, where the first node gets this one
abbrev pub numbers : (List ℕ → List (List ℕ)) → ℕ → List Node → List (Option ℕ)
numbers means at [] = []
numbers means at (n ∷ ns) = number_by (kind_of n) (meant_at means n) at ∷ numbers means (at + 1 + added (meant_at means n)) ns

abbrev pub number_in : Option (Option ℕ) → Option ℕ
number_in None = None
number_in (Some number) = number

abbrev pub known_at : Option ℕ → Node → List Known
known_at None literal = []
known_at (Some at) literal = record { at = at; literal = literal } ∷ []

-- what is known of the names that stay names, by their new numbers
abbrev pub kept : (List ℕ → List (List ℕ)) → Node → List Known → List Known
kept means tree known = flat_map (λ k. known_at (number_in (slice_get (numbers means 0 (pre_of tree)) k.at)) k.literal) known

-- ---- the view

abbrev pub tree_in : Lang → Node → Node
tree_in langs.Python tree = replaced (meaning (claims_of tree)) tree
tree_in _ tree = tree

abbrev pub known_in : Lang → Node → List Known → List Known
known_in langs.Python tree known = kept (meaning (claims_of tree)) tree known
known_in _ tree known = known

-- the view of a file in which the names that stand for dotted names are replaced; in other languages than Python there are none
pub record IsResolved (view resolved : FileView) : Type 0 where
  pub lang : resolved.lang ≡ view.lang
  pub bytes : resolved.bytes ≡ view.bytes
  pub tree : resolved.tree ≡ tree_in view.lang view.tree
  pub known : resolved.known ≡ known_in view.lang view.tree view.known
