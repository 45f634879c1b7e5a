-- The nodes of the parts of an f-string (the Python reference, section "Formatted string literals").
use Rattle.std.specs.Prelude.{◌≡◌, ℕ, zero, suc, Bool, false, if◌then◌else◌, List, [], ◌∷◌, length, get_or, codes, Option, Some, None}
use Rattle.std.specs.Str.{bytes_eq}
use Rattle.node_tree.specs.declared.node.Node.{Node}
use Rattle.node_tree.specs.declared.kind.Kind.TheVariants as k
use Rattle.node_tree.specs.declared.view.Mode.{Mode}
use Rattle.node_tree.specs.declared.span.Span.{Span}
use Rattle.node_tree.specs.Tree.{span_of}
use Rattle.grammar.specs.Rule.{IsPiece}
use Rattle.py_lex.specs.declared.token.PyToken.{PyToken, out-PyToken}
use Rattle.py_lex.specs.declared.token.PyWord.{PyWord}
use Rattle.py_lex.specs.declared.token.PyWord.TheVariants as lexed
use Rattle.py_lex.specs.declared.token.FPart.{FPart, out-FPart}
use Rattle.py_lex.specs.declared.token.FPart.TheOpen.{Plain, Field}
use Rattle.py_expr.specs.declared.item.Item.{Item}
use Rattle.py_expr.specs.Items.{Insides, AreItems}
use Rattle.py_expr.specs.Parts.{whole, node, depth_all}
use Rattle.py_expr.specs.Table.{Exprs, grammar}
use Rattle.py_expr.specs.Build.{source, empty_list}

-- an answer is the only thing of which something holds, or says that it holds of nothing
abbrev pub Finds : {X : Type 0} → (X → Type 0) → Option X → Type 0
Finds {X = X} P (Some x) = P x × ((y : X) → P y → y ≡ x)
Finds {X = X} P None = (x : X) → P x → ⊥

-- all the items are one expression, within the limits
abbrev pub IsWhole : List Item → Node → Type 0
IsWhole is n = IsPiece grammar depth_all (source is) Exprs (whole n ∷ []) 0 (length is)

-- the `=` that may stand behind the expression of a field
abbrev pub equal_by : PyWord → List ℕ → Bool
equal_by lexed.Op text = bytes_eq text (codes "=")
equal_by _ text = false

abbrev pub is_equal : PyToken → Bool
is_equal t = equal_by (out-PyToken t).word (out-PyToken t).text

-- the tokens without it
abbrev pub without_equal : List PyToken → List PyToken
without_equal [] = []
without_equal (t ∷ []) = if is_equal t then [] else t ∷ []
without_equal (t ∷ u ∷ ts) = t ∷ without_equal (u ∷ ts)

-- the expression of a field
pub record IsValue (I : Insides) (mode : Mode) (ts : List PyToken) (n : Node) : Type 0 where
  pub items : List Item
  pub are : AreItems I mode (without_equal ts) items
  pub reads : IsWhole items n

-- the list of a format, from its first part to its last; without parts it stands where the field begins
abbrev pub format_list : ℕ → List Node → Node
format_list from [] = empty_list from
format_list from (n ∷ ns) = node k.List [] (span_of n).from (span_of (get_or (n ∷ ns) (length ns) n)).to (n ∷ ns)

-- FField(conversion)[expression, List of the format]
abbrev pub field_node : Span → List ℕ → Node → List Node → Node
field_node span conversion value nodes = node k.FField conversion span.from span.to (value ∷ format_list span.from nodes ∷ [])

-- the node of a part: FText with text as written, or a field
abbrev pub IsPart : Insides → Mode → FPart → Node → Type 0
IsPart I mode p n = elim (out-FPart p) [
  | Plain text span ↦ n ≡ node k.FText text span.from span.to []
  | Field ts conversion format span ↦ (value : Node) × (nodes : List Node) × IsValue I mode ts value × I format nodes × (n ≡ field_node span conversion value nodes)
]

abbrev pub AreParts : Insides → Mode → Insides
AreParts I mode [] ns = ns ≡ []
AreParts I mode (p ∷ ps) ns = (n : Node) × (more : List Node) × IsPart I mode p n × AreParts I mode ps more × (ns ≡ n ∷ more)

-- The nodes of parts, where at most so many f-strings and formats stand within one another.
abbrev pub HasNodes : ℕ → Mode → Insides
HasNodes zero mode ps ns = ⊥
HasNodes (suc levels) mode ps ns = AreParts (HasNodes levels mode) mode ps ns
