-- How trees, and what patterns have in them, are written as bytes.
use Rattle.std.specs.Prelude.{◌≡◌, ℕ, zero, suc, ◌<◌, ◌^◌, List, ◌++◌, length, map}
use Rattle.std.specs.List.{flat_map, All}
use Rattle.std.specs.Int.{w32, to_le_bytes}
use Rattle.std.specs.Str.{IsUtf8}
use Rattle.node_tree.specs.declared.node.Node.{Node, fold-Node, fold_out-Node}
use Rattle.node_tree.specs.declared.kind.Kind.{Kind}
use Rattle.node_tree.specs.declared.span.Span.{Span}
use Rattle.node_tree.specs.Order.{kind_place}
use Rattle.node_tree.specs.Tree.{kind_of, text_of, kids_of, span_of, content_kind, no_span}
use Rattle.meta_bind.specs.declared.bound.Bound.{Bound}
use Rattle.meta_bind.specs.Bounds.{NamesAscend}
use Rattle.store_form.specs.declared.head.Head.{Head}

-- ---- bytes

-- a number takes 4 bytes, the lowest first
unfoldable pub number_bytes : ℕ → List ℕ
number_bytes n = to_le_bytes w32 n

-- a text stands behind its length
abbrev pub text_bytes : List ℕ → List ℕ
text_bytes text = number_bytes (length text) ++ text

abbrev pub span_bytes : Span → List ℕ
span_bytes span = number_bytes span.from ++ number_bytes span.to

-- a list stands behind its number of items
abbrev pub list_bytes : {X : Type 0} → (X → List ℕ) → List X → List ℕ
list_bytes bytes items = number_bytes (length items) ++ flat_map bytes items

-- a kind is written as its place in the order of kinds
unfoldable pub kind_bytes : Kind → List ℕ
kind_bytes k = number_bytes (kind_place k)

-- what of a node stands before its kids: the place of its kind, its text, its range, and the number of kids
abbrev pub head_bytes : Head → List ℕ
head_bytes h = kind_bytes h.kind ++ (text_bytes h.text ++ (span_bytes h.span ++ number_bytes h.kids))

unfoldable pub node_bytes : Node → List ℕ
node_bytes = fold-Node (List ℕ) (λ x. head_bytes (record { kind = x.kind; text = x.text; span = x.span; kids = length x.kids }) ++ flat_map (λ k. k) x.kids)

pub node_bytes_is : (n : Node) → node_bytes n ≡ head_bytes (record { kind = kind_of n; text = text_of n; span = span_of n; kids = length (map node_bytes (kids_of n)) }) ++ flat_map (λ k. k) (map node_bytes (kids_of n))
unfolding node_bytes
node_bytes_is n =
    fold_out-Node (List ℕ) (λ x. head_bytes (record { kind = x.kind; text = x.text; span = x.span; kids = length x.kids }) ++ flat_map (λ k. k) x.kids) n

abbrev pub bound_bytes : Bound → List ℕ
bound_bytes b = text_bytes b.name ++ (span_bytes b.span ++ list_bytes node_bytes b.nodes)

abbrev pub binding_bytes : List Bound → List ℕ
binding_bytes bounds = list_bytes bound_bytes bounds

-- a range, and what the names stand for there
abbrev pub member_bytes : Span × List Bound → List ℕ
member_bytes m = span_bytes m.0 ++ binding_bytes m.1

-- members without their number
abbrev pub members_bytes : List (Span × List Bound) → List ℕ
members_bytes members = flat_map member_bytes members

-- ---- what may be written

abbrev pub IsNumber : ℕ → Type 0
IsNumber n = n < 2 ^ 32

abbrev pub IsText : List ℕ → Type 0
IsText text = IsUtf8 text × IsNumber (length text)

abbrev pub IsSpan : Span → Type 0
IsSpan span = IsNumber span.from × IsNumber span.to

abbrev pub IsListOf : {X : Type 0} → (X → Type 0) → List X → Type 0
IsListOf Is items = IsNumber (length items) × All Is items

-- of a node only the content counts, for which an `Id` is a `Name`
unfoldable pub IsKind : Kind → Type 0
IsKind k = content_kind k ≡ k

-- a node of a content has no range
pub record IsHead (h : Head) : Type 0 where
  pub kind : IsKind h.kind
  pub span : h.span ≡ no_span
  pub text : IsText h.text
  pub kids : IsNumber h.kids

abbrev pub head_of : Node → Head
head_of n = record { kind = kind_of n; text = text_of n; span = span_of n; kids = length (kids_of n) }

-- a node with so many levels below which there is nothing
unfoldable pub IsNodeWithin : ℕ → Node → Type 0
IsNodeWithin zero n = ⊥
IsNodeWithin (suc room) n = IsHead (head_of n) × All (IsNodeWithin room) (kids_of n)

-- at most 509 levels
abbrev pub IsNode : Node → Type 0
IsNode n = IsNodeWithin 509 n

pub record IsBound (b : Bound) : Type 0 where
  pub name : IsText b.name
  pub span : IsSpan b.span
  pub nodes : IsListOf IsNode b.nodes

-- bounds in order of name, each name once
abbrev pub IsBinding : List Bound → Type 0
IsBinding bounds = IsListOf IsBound bounds × NamesAscend bounds

abbrev pub IsMember : Span × List Bound → Type 0
IsMember m = IsSpan m.0 × IsBinding m.1

-- so many members
abbrev pub AreMembers : ℕ → List (Span × List Bound) → Type 0
AreMembers many members = (length members ≡ many) × All IsMember members
