-- The spans of a tree lie in the text.
use Rattle.std.proofs.Common.{◌≡◌, ℕ, zero, suc, ◌-◌, ◌<◌, ◌≤◌, List, [], ◌∷◌, ◌++◌, length, refl, sym, subst, arith, true}
use Rattle.std.specs.Prelude.{None}
use Rattle.std.specs.Str.{IsUtf8}
use Rattle.std.proofs.lemmas.Str.{IsCharBoundary-start, IsCharBoundary-end}
use Rattle.node_tree.specs.declared.node.Node.{Node, roll-Node}
use Rattle.node_tree.specs.declared.kind.Kind.{Kind}
use Rattle.node_tree.specs.declared.kind.Kind.TheVariants.{Root}
use Rattle.node_tree.specs.declared.span.Span.{Span}
use Rattle.node_tree.specs.Span.{LiesIn}
use Rattle.node_tree.specs.Spans.{SpansLieIn}
use Rattle.node_tree.proofs.Nodes.{made, made_kids, made_span}
use Rattle.node_tree.proofs.SpanLaws.{AllLieIn, none_lie, more_lie, node_lies}
use Rattle.grammar.proofs.Pieces.{filled, Keeps, spelled_holds}
use Rattle.grammar.proofs.Checked.{is_grammar}
use Rattle.json_tree.specs.declared.token.Token.{Token}
use Rattle.json_tree.specs.Table.{Level, Value, Array, Values, ValuesTail, Object, Entries, EntriesTail, Entry, Member, Deep, table, grammar}
use Rattle.json_tree.specs.Build.{token_at, end_of, node, source}
use Rattle.json_tree.specs.Lexing.{ArePlaced}
use Rattle.json_tree.specs.Words.{kind_of, shown}
use Rattle.json_tree.specs.reader.Sets.{sets, ranks}
use Rattle.json_tree.specs.Spells.{IsValueOf}
use Rattle.json_tree.proofs.Passes.{pass}

-- ---- tokens

token_lies : (text : List ℕ) (from to : ℕ) (ts : List Token) (n : ℕ) → ArePlaced text from ts to → n < length ts → LiesIn text (token_at ts n).span × (from ≤ (token_at ts n).span.from)
token_lies text from to [] n h lt = absurd (omega arith)
token_lies text from to (t ∷ ts) zero h lt = (h.1, h.0)
token_lies text from to (t ∷ ts) (suc n) h lt = let r = token_lies text t.span.to to ts n h.2 (omega arith) in (r.0, omega (arith, h.0, h.1.ordered, r.1))

in_order : (text : List ℕ) (from to : ℕ) (ts : List Token) (i j : ℕ) → ArePlaced text from ts to → i ≤ j → j < length ts → (token_at ts i).span.from ≤ (token_at ts j).span.to
in_order text from to [] i j h le lt = absurd (omega arith)
in_order text from to (t ∷ ts) zero zero h le lt = h.1.ordered
in_order text from to (t ∷ ts) zero (suc j) h le lt = let r = token_lies text t.span.to to ts j h.2 (omega arith) in omega (arith, h.1.ordered, r.1, r.0.ordered)
in_order text from to (t ∷ ts) (suc i) zero h le lt = absurd (omega arith)
in_order text from to (t ∷ ts) (suc i) (suc j) h le lt = in_order text t.span.to to ts i j h.2 (omega arith) (omega arith)

piece_lies : (text : List ℕ) (to : ℕ) (ts : List Token) (i j : ℕ) → ArePlaced text 0 ts to → i < j → j ≤ length ts → LiesIn text (record { from = (token_at ts i).span.from; to = end_of ts j })
piece_lies text to ts i j h lt le = record {
  ordered = in_order text 0 to ts i (j - 1) h (omega arith) (omega arith);
  begins = (token_lies text 0 to ts i h (omega arith)).0.begins;
  ends = (token_lies text 0 to ts (j - 1) h (omega arith)).0.ends;
}

-- ---- nodes

abbrev Each : List ℕ → List Node → Type 0
Each text [] = Unit {0}
Each text (n ∷ ns) = SpansLieIn text n × Each text ns

both : (text : List ℕ) (ys zs : List Node) → Each text ys → Each text zs → Each text (ys ++ zs)
both text [] zs h k = k
both text (y ∷ ys) zs h k = (h.0, both text ys zs h.1 k)

all : (text : List ℕ) (ns : List Node) → Each text ns → AllLieIn text ns
all text [] h = none_lie text
all text (n ∷ ns) h = more_lie text n ns h.0 (all text ns h.1)

over_lies : (text : List ℕ) (kind : Kind) (written : List ℕ) (kids : List Node) (span : Span) → LiesIn text span → Each text kids → SpansLieIn text (roll-Node (made kind written kids span))
over_lies text kind written kids span lies each =
    node_lies text (roll-Node (made kind written kids span)) (subst (λ (s : Span). LiesIn text s) (sym (made_span kind written kids span)) lies)
    (subst (λ (ns : List Node). AllLieIn text ns) (sym (made_kids kind written kids span)) (all text kids each))

-- each node is made of what takes a token
level_filled : (l : Level) → filled sets (λ b. true) None (table l) ≡ true
level_filled Value = refl
level_filled Array = refl
level_filled Values = refl
level_filled ValuesTail = refl
level_filled Object = refl
level_filled Entries = refl
level_filled EntriesTail = refl
level_filled Entry = refl
level_filled Member = refl
level_filled Deep = refl

-- what nodes are made of lies in the text
keeps : (text : List ℕ) (to : ℕ) (ts : List Token) → ArePlaced text 0 ts to → Keeps (source ts) (λ b. true) (length ts) (λ i j. Each text)
keeps text to ts p = record {
  nothing = λ i j le le'. tt;
  leaf = λ k i lt. (over_lies text (kind_of (token_at ts i).word) (shown (token_at ts i).word (token_at ts i).text) [] (token_at ts i).span (token_lies text 0 to ts i p lt).0 tt, tt);
  joined = λ i k j ys zs le le' le'' h h'. both text ys zs h h';
  bracketed = λ i j xs lt lt' h. h;
  built = λ b i j ys le lt le' h. (over_lies text b [] ys (record { from = (token_at ts i).span.from; to = end_of ts j }) (piece_lies text to ts i j p (lt refl) le') h, tt);
}

-- a root over the value that tokens spell lies in the text, where the tokens do
pub root_lies : (text : List ℕ) (ts us : List Token) (n : Node) → IsUtf8 text → ArePlaced text 0 ts (length text) → us ≡ ts → IsValueOf us n → SpansLieIn text (node Root 0 (length text) (n ∷ []))
root_lies text ts us n utf8 p e v =
    let q = subst (λ (x : List Token). ArePlaced text 0 x (length text)) (sym e) p in
    over_lies text Root [] (n ∷ []) (record { from = 0; to = length text }) (record { ordered = omega arith; begins = IsCharBoundary-start text utf8; ends = IsCharBoundary-end text }) (spelled_holds (source us) table sets (is_grammar grammar sets ranks pass) (λ b. true) level_filled (length us) (λ i j. Each text) (keeps text (length text) us q) Value (n ∷ []) 0 (length us) v.spelled (omega arith))
