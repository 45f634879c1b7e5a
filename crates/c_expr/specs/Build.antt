-- The nodes of the grammar, from the tokens of their pieces.
use Rattle.std.specs.Prelude.{ℕ, zero, suc, ◌-◌, Bool, cond, ◌&&◌, ◌||◌, max, List, [], ◌∷◌, ◌++◌, length, get_or, map, codes, eqb, ltb, leb, Option, Some, None}
use Rattle.node_tree.specs.declared.node.Node.{Node, roll-Node}
use Rattle.node_tree.specs.declared.kind.Kind.{Kind}
use Rattle.node_tree.specs.declared.kind.Kind.TheVariants as k
use Rattle.node_tree.specs.declared.span.Span.{Span}
use Rattle.node_tree.specs.Order.{kind_place}
use Rattle.node_tree.specs.Tree.{kind_of, text_of, kids_of, span_of, largest}
use Rattle.grammar.specs.Rule.{Source}
use Rattle.c_expr.specs.declared.word.Word.{Word}
use Rattle.c_expr.specs.declared.word.Word.TheVariants.{End, Name}
use Rattle.c_expr.specs.declared.word.Token.{Token}
use Rattle.c_expr.specs.declared.part.Part.{Part}
use Rattle.c_expr.specs.Words as words
use Rattle.c_expr.specs.Words.{class, shown}
use Rattle.c_expr.specs.Table.{Leaf, Own, AsId, Spelling, Builder, Over, Named, TypeWords, Spellings, Pointer, Chain, Rootless, Joined, Widened}

-- ---- tokens

abbrev pub end_token : Token
end_token = record { word = End; text = []; span = record { from = 0; to = 0 } }

-- the token that stands there, or the end
abbrev pub token_at : List Token → ℕ → Token
token_at ts i = get_or ts i end_token

abbrev pub start_of : List Token → ℕ → ℕ
start_of ts i = (token_at ts i).span.from

-- where the piece that ends before this token ends
abbrev pub end_of : List Token → ℕ → ℕ
end_of ts j = (token_at ts (j - 1)).span.to

-- the bytes from one token up to before another, none where there are no tokens between
abbrev pub span_between : List Token → ℕ → ℕ → Span
span_between ts i j = record { from = start_of ts i; to = cond (ltb i j) (end_of ts j) (start_of ts i) }

-- one part or none
abbrev pub list_of : Option Part → List Part
list_of None = []
list_of (Some p) = p ∷ []

-- ---- nodes. A part is a node with its depth; the width of a member has no node, and counts for the depth of the member.

abbrev pub node : Kind → List ℕ → List Node → Span → Node
node kind text kids span = roll-Node (record { kind = kind; text = text; kids = kids; span = span })

abbrev pub empty_at : ℕ → Span
empty_at at = record { from = at; to = at }

-- a node that is left out
abbrev pub absent : ℕ → Part
absent at = record { node = node k.Absent [] [] (empty_at at); depth = 1 }

-- whether a node of this kind without kids has no tokens
unfoldable pub may_be_bare : Kind → Bool
may_be_bare kind = eqb (kind_place kind) (kind_place k.List) || eqb (kind_place kind) (kind_place k.Absent)

-- a node without tokens stands where its parent begins
unfoldable pub settled : ℕ → Node → Node
settled at n = cond (may_be_bare (kind_of n) && eqb (length (kids_of n)) 0) (node (kind_of n) (text_of n) (kids_of n) (empty_at at)) n

abbrev pub settled_all : ℕ → List Node → List Node
settled_all at ns = map (settled at) ns

abbrev pub nodes : List Part → List Node
nodes ps = map (λ p. p.node) ps

-- how deep the deepest of some parts is
abbrev pub tallest : List Part → ℕ
tallest ps = largest (map (λ p. p.depth) ps)

-- at least so many parts, with Absent for what is left out
abbrev pub padded : ℕ → ℕ → List Part → List Part
padded at zero ps = ps
padded at (suc n) [] = absent at ∷ padded at n []
padded at (suc n) (p ∷ ps) = p ∷ padded at n ps

-- a node over parts
unfoldable pub over : Kind → List ℕ → Span → List Part → Part
over kind text span ps = record { node = node kind text (settled_all span.from (nodes ps)) span; depth = suc (tallest ps) }

-- ---- what puts the first kid of a node in its place

-- a node, made over all but its first kid, put over that kid; `from` is where it then begins
unfoldable pub grafted : ℕ → Part → Part → Part
grafted from t p = record {
  node = node (kind_of p.node) (text_of p.node) (settled_all from (t.node ∷ kids_of p.node)) (record { from = from; to = (span_of p.node).to });
  depth = max (suc t.depth) p.depth;
}

abbrev pub graft_all : ℕ → Part → List Part → Part
graft_all from t [] = t
graft_all from t (p ∷ ps) = graft_all from (grafted from t p) ps

-- ---- what gathers spellings

-- whether a part is a spelling, which has no node of its own
unfoldable pub is_spelling : Part → Bool
is_spelling p = eqb (kind_place (kind_of p.node)) (kind_place k.Keyword) && eqb p.depth 0

-- a spelling more, with a space between two
abbrev pub spelled_more : List ℕ → List ℕ → List ℕ
spelled_more [] more = more
spelled_more (c ∷ text) more = (c ∷ text) ++ (codes " " ++ more)

-- the spellings among the parts, behind a text so far, and the other parts, behind others so far
abbrev pub gathered : List ℕ × List Part → List Part → List ℕ × List Part
gathered s [] = s
gathered s (p ∷ ps) = gathered (cond (is_spelling p) (spelled_more s.0 (text_of p.node), s.1) (s.0, s.1 ++ p ∷ [])) ps

-- a type, whose text is the spellings, and whose kids are the others
abbrev pub type_over : Span → List ℕ × List Part → Part
type_over span s = over k.TypeSpec s.0 span s.1

-- spellings joined, which have no node of their own
abbrev pub spellings : Span → List ℕ × List Part → Part
spellings span s = record { node = node k.Keyword s.0 [] span; depth = tallest s.1 }

-- a pointer with a text, to what the other parts say
abbrev pub pointing : Span → List ℕ → ℕ → List Part → Part
pointing span text depth ps = record { node = (over k.Ptr text span (padded span.from 1 ps)).node; depth = suc (max depth (tallest (padded span.from 1 ps))) }

abbrev pub pointer : Span → List Part → Part
pointer span [] = absent span.from
pointer span (p ∷ ps) = pointing span (text_of p.node) p.depth ps

-- ---- the builders

abbrev pub leaf_kind : Leaf → Word → Kind
leaf_kind Own word = words.kind_of word
leaf_kind AsId Name = k.Id
leaf_kind AsId word = words.kind_of word
leaf_kind Spelling word = k.Keyword

abbrev pub leaf_text : Leaf → Word → List ℕ → List ℕ
leaf_text Spelling word text = text
leaf_text _ word text = shown word text

abbrev pub leaf_depth : Leaf → ℕ
leaf_depth Own = 1
leaf_depth AsId = 1
leaf_depth Spelling = 0

-- the part of one token
abbrev pub leaf : List Token → Leaf → ℕ → Part
leaf ts l i = record { node = node (leaf_kind l (token_at ts i).word) (leaf_text l (token_at ts i).word (token_at ts i).text) [] (token_at ts i).span; depth = leaf_depth l }

abbrev pub joined : Span → List Part → Part
joined span (p ∷ []) = p
joined span ps = over k.StrJoin [] span ps

abbrev pub chained : ℕ → List Part → Part
chained from [] = absent from
chained from (p ∷ ps) = graft_all from p ps

abbrev pub widened : ℕ → List Part → Part
widened from [] = absent from
widened from (p ∷ ps) = record { node = p.node; depth = max p.depth (tallest ps) }

-- the part that a builder makes; a node spans its piece, from the first token's start to the last token's end
abbrev pub built : List Token → Builder → ℕ → ℕ → List Part → Part
built ts (Over kind n) i j ps = over kind [] (span_between ts i j) (padded (start_of ts i) n ps)
built ts (Named kind n) i j ps = over kind (token_at ts i).text (span_between ts i j) (padded (start_of ts i) n ps)
built ts TypeWords i j ps = type_over (span_between ts i j) (gathered ([], []) ps)
built ts Spellings i j ps = spellings (span_between ts i j) (gathered ([], []) ps)
built ts Pointer i j ps = pointer (span_between ts i j) ps
built ts Chain i j ps = chained (start_of ts i) ps
built ts Rootless i j ps = graft_all (start_of ts i) (absent (start_of ts i)) ps
built ts Joined i j ps = joined (span_between ts i j) ps
built ts Widened i j ps = widened (start_of ts i) ps

-- the tokens, for the grammar
abbrev pub source : List Token → Source Leaf Builder Part
source ts = record {
  cls = λ i. class (token_at ts i).word;
  leaf = leaf ts;
  build = λ b i j ps. built ts b i j ps ∷ [];
}

-- ---- what is cut off

-- what stands for a part that is too deep
abbrev pub stub : Part
stub = record { node = node k.Absent [] [] (empty_at 0); depth = 501 }

-- a part, or where it is too deep what stands for it
unfoldable pub cut : Part → Part
cut p = cond (leb p.depth 500) p stub

-- ---- the same builders, which cut off each node as it is made

abbrev pub graft_cut : ℕ → Part → List Part → Part
graft_cut from t [] = t
graft_cut from t (p ∷ ps) = graft_cut from (cut (grafted from t p)) ps

abbrev pub cut_chained : ℕ → List Part → Part
cut_chained from [] = absent from
cut_chained from (p ∷ ps) = graft_cut from p ps

abbrev pub cut_joined : Span → List Part → Part
cut_joined span (p ∷ []) = p
cut_joined span ps = cut (joined span ps)

abbrev pub cut_widened : ℕ → List Part → Part
cut_widened from (p ∷ []) = p
cut_widened from ps = cut (widened from ps)

abbrev pub cut_built : List Token → Builder → ℕ → ℕ → List Part → Part
cut_built ts Chain i j ps = cut_chained (start_of ts i) ps
cut_built ts Rootless i j ps = graft_cut (start_of ts i) (absent (start_of ts i)) ps
cut_built ts Joined i j ps = cut_joined (span_between ts i j) ps
cut_built ts Widened i j ps = cut_widened (start_of ts i) ps
cut_built ts (Over kind n) i j ps = cut (built ts (Over kind n) i j ps)
cut_built ts (Named kind n) i j ps = cut (built ts (Named kind n) i j ps)
cut_built ts TypeWords i j ps = cut (built ts TypeWords i j ps)
cut_built ts Spellings i j ps = spellings (span_between ts i j) (gathered ([], []) ps)
cut_built ts Pointer i j ps = cut (built ts Pointer i j ps)

-- the tokens, for a reader that makes no tree deeper than it may be
abbrev pub cut_source : List Token → Source Leaf Builder Part
cut_source ts = record {
  cls = λ i. class (token_at ts i).word;
  leaf = leaf ts;
  build = λ b i j ps. cut_built ts b i j ps ∷ [];
}
