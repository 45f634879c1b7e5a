-- The spans of a tree lie in the text where the tokens do.
use Rattle.std.proofs.Common.{◌≡◌, ℕ, zero, suc, ◌-◌, ◌<◌, ◌≤◌, List, [], ◌∷◌, ◌++◌, length, refl, sym, subst, arith, Bool, true, false, cond}
use Rattle.std.specs.Prelude.{◌&&◌, eqb, ltb}
use Rattle.std.specs.Str.{IsCharBoundary}
use Rattle.node_tree.specs.declared.node.Node.{Node}
use Rattle.node_tree.specs.declared.kind.Kind.{Kind}
use Rattle.node_tree.specs.declared.kind.Kind.TheVariants as k
use Rattle.node_tree.specs.declared.span.Span.{Span}
use Rattle.node_tree.specs.Span.{LiesIn}
use Rattle.node_tree.specs.Spans.{SpansLieIn}
use Rattle.node_tree.specs.Tree.{kind_of, text_of, kids_of, span_of}
use Rattle.node_tree.proofs.Nodes.{made_kids, made_span}
use Rattle.node_tree.proofs.SpanLaws.{AllLieIn, none_lie, more_lie, node_lies}
use Rattle.grammar.specs.Rule.{Loop, Rule, Table, IsPiece, Derives, d_done, d_mark, d_word, d_ref, d_deep, d_again, d_rep, d_seq, d_around, d_left, d_right, d_seen, d_unseen, d_chosen, d_unchosen, d_without, d_with, d_barred, d_taken, d_make}
use Rattle.grammar.specs.Sets.{Sets}
use Rattle.grammar.proofs.Facts.{and_both}
use Rattle.grammar.proofs.Bounded.{forward}
use Rattle.grammar.proofs.Spelled.{IsGrammar}
use Rattle.grammar.proofs.Checked.{is_grammar}
use Rattle.c_expr.specs.declared.word.Token.{Token}
use Rattle.c_expr.specs.declared.part.Part.{Part}
use Rattle.c_expr.specs.Table.{Level, Leaf, Builder, Over, Named, TypeWords, Spellings, Pointer, Chain, Rootless, Joined, Widened, table, grammar}
use Rattle.c_expr.specs.Build.{token_at, start_of, end_of, span_between, node, empty_at, absent, may_be_bare, settled, settled_all, nodes, tallest, padded, over, grafted, graft_all, is_spelling, spelled_more, gathered, built, leaf, leaf_kind, leaf_text, source}
use Rattle.c_expr.specs.reader.Sets.{sets, ranks}
use Rattle.c_expr.proofs.Passes.{pass}

-- the tokens lie in the text one after the other, from one byte on
abbrev pub ArePlaced : List ℕ → ℕ → List Token → Type 0
ArePlaced text from [] = Unit {0}
ArePlaced text from (t ∷ ts) = (from ≤ t.span.from) × LiesIn text t.span × ArePlaced text t.span.to ts

abbrev pub PartsLieIn : List ℕ → List Part → Type 0
PartsLieIn text [] = Unit {0}
PartsLieIn text (p ∷ ps) = SpansLieIn text p.node × PartsLieIn text ps

-- ---- tokens

token_lies : (text : List ℕ) (from : ℕ) (ts : List Token) (n : ℕ) → ArePlaced text from ts → n < length ts → LiesIn text (token_at ts n).span × (from ≤ start_of ts n)
token_lies text from [] n h lt = absurd (omega arith)
token_lies text from (t ∷ ts) zero h lt = (h.1, h.0)
token_lies text from (t ∷ ts) (suc n) h lt = let r = token_lies text t.span.to ts n h.2 (omega arith) in (r.0, omega (arith, h.0, h.1.ordered, r.1))

in_order : (text : List ℕ) (from : ℕ) (ts : List Token) (i j : ℕ) → ArePlaced text from ts → i ≤ j → j < length ts → (start_of ts i ≤ start_of ts j) × (start_of ts i ≤ (token_at ts j).span.to)
in_order text from [] i j h le lt = absurd (omega arith)
in_order text from (t ∷ ts) zero zero h le lt = (omega arith, h.1.ordered)
in_order text from (t ∷ ts) zero (suc j) h le lt = let r = token_lies text t.span.to ts j h.2 (omega arith) in (omega (arith, h.1.ordered, r.1), omega (arith, h.1.ordered, r.1, r.0.ordered))
in_order text from (t ∷ ts) (suc i) zero h le lt = absurd (omega arith)
in_order text from (t ∷ ts) (suc i) (suc j) h le lt = in_order text t.span.to ts i j h.2 (omega arith) (omega arith)

-- ---- nodes

abbrev Each : List ℕ → List Node → Type 0
Each text [] = Unit {0}
Each text (n ∷ ns) = SpansLieIn text n × Each text ns

all : (text : List ℕ) (ns : List Node) → Each text ns → AllLieIn text ns
all text [] h = none_lie text
all text (n ∷ ns) h = more_lie text n ns h.0 (all text ns h.1)

over_lies : (text : List ℕ) (kind : Kind) (written : List ℕ) (kids : List Node) (span : Span) → LiesIn text span → Each text kids → SpansLieIn text (node kind written kids span)
over_lies text kind written kids span lies each =
    node_lies text (node kind written kids span) (subst (λ (s : Span). LiesIn text s) (sym (made_span kind written kids span)) lies)
    (subst (λ (ns : List Node). AllLieIn text ns) (sym (made_kids kind written kids span)) (all text kids each))

-- a part whose spans lie in the text, and which ends at a byte or behind it
record Good (text : List ℕ) (from : ℕ) (p : Part) : Type 0 where
  spans : SpansLieIn text p.node
  kids : Each text (kids_of p.node)
  span : LiesIn text (span_of p.node)
  far : from ≤ (span_of p.node).to

abbrev AllGood : List ℕ → ℕ → List Part → Type 0
AllGood text from [] = Unit {0}
AllGood text from (p ∷ ps) = Good text from p × AllGood text from ps

node_good : (text : List ℕ) (from : ℕ) (kind : Kind) (written : List ℕ) (kids : List Node) (span : Span) (depth : ℕ) → LiesIn text span → Each text kids → from ≤ span.to → Good text from (record { node = node kind written kids span; depth = depth })
node_good text from kind written kids span depth lies each far = record {
  spans = over_lies text kind written kids span lies each;
  kids = subst (λ (ns : List Node). Each text ns) (sym (made_kids kind written kids span)) each;
  span = subst (λ (s : Span). LiesIn text s) (sym (made_span kind written kids span)) lies;
  far = subst (λ (s : Span). from ≤ s.to) (sym (made_span kind written kids span)) far;
}

later : (text : List ℕ) (a b : ℕ) (ps : List Part) → a ≤ b → AllGood text b ps → AllGood text a ps
later text a b [] le h = tt
later text a b (p ∷ ps) le h = (record { spans = h.0.spans; kids = h.0.kids; span = h.0.span; far = omega (arith, le, h.0.far) }, later text a b ps le h.1)

both : (text : List ℕ) (from : ℕ) (ps qs : List Part) → AllGood text from ps → AllGood text from qs → AllGood text from (ps ++ qs)
both text from [] qs h k = k
both text from (p ∷ ps) qs h k = (h.0, both text from ps qs h.1 k)

at_lies : (text : List ℕ) (at : ℕ) → IsCharBoundary text at → LiesIn text (empty_at at)
at_lies text at b = record { ordered = omega arith; begins = b; ends = b }

zero_of : (n : ℕ) → eqb n 0 ≡ true → n ≡ 0
zero_of n e = grind arith

none : (text : List ℕ) (ns : List Node) → eqb (length ns) 0 ≡ true → Each text ns
none text [] h = tt
none text (n ∷ ns) h = absurd (omega (arith, zero_of (length (n ∷ ns)) h))

settled_lies : (text : List ℕ) (at : ℕ) (n : Node) → IsCharBoundary text at → SpansLieIn text n → SpansLieIn text (settled at n)
unfolding settled
settled_lies text at n b h = by (may_be_bare (kind_of n) && eqb (length (kids_of n)) 0) refl
  where
    by : (c : Bool) → (may_be_bare (kind_of n) && eqb (length (kids_of n)) 0) ≡ c → SpansLieIn text (cond c (node (kind_of n) (text_of n) (kids_of n) (empty_at at)) n)
    by true e = over_lies text (kind_of n) (text_of n) (kids_of n) (empty_at at) (at_lies text at b) (none text (kids_of n) (and_both (may_be_bare (kind_of n)) (eqb (length (kids_of n)) 0) e).1)
    by false e = h

settled_each : (text : List ℕ) (at : ℕ) (ns : List Node) → IsCharBoundary text at → Each text ns → Each text (settled_all at ns)
settled_each text at [] b h = tt
settled_each text at (n ∷ ns) b h = (settled_lies text at n b h.0, settled_each text at ns b h.1)

nodes_lie : (text : List ℕ) (from : ℕ) (ps : List Part) → AllGood text from ps → Each text (nodes ps)
nodes_lie text from [] h = tt
nodes_lie text from (p ∷ ps) h = (h.0.spans, nodes_lie text from ps h.1)

absent_good : (text : List ℕ) (at : ℕ) → IsCharBoundary text at → Good text at (absent at)
absent_good text at b = node_good text at k.Absent [] [] (empty_at at) 1 (at_lies text at b) tt (omega arith)

padded_good : (text : List ℕ) (at n : ℕ) (ps : List Part) → IsCharBoundary text at → AllGood text at ps → AllGood text at (padded at n ps)
padded_good text at zero ps b h = h
padded_good text at (suc n) [] b h = (absent_good text at b, padded_good text at n [] b tt)
padded_good text at (suc n) (p ∷ ps) b h = (h.0, padded_good text at n ps b h.1)

over_good : (text : List ℕ) (kind : Kind) (written : List ℕ) (span : Span) (ps : List Part) → LiesIn text span → AllGood text span.from ps → Good text span.from (over kind written span ps)
unfolding over
over_good text kind written span ps lies h = node_good text span.from kind written (settled_all span.from (nodes ps)) span (suc (tallest ps)) lies (settled_each text span.from (nodes ps) lies.begins (nodes_lie text span.from ps h)) lies.ordered

grafted_good : (text : List ℕ) (from : ℕ) (t p : Part) → IsCharBoundary text from → Good text from t → Good text from p → Good text from (grafted from t p)
unfolding grafted
grafted_good text from t p b g h = node_good text from (kind_of p.node) (text_of p.node) (settled_all from (t.node ∷ kids_of p.node)) (record { from = from; to = (span_of p.node).to }) _
    (record { ordered = h.far; begins = b; ends = h.span.ends }) (settled_each text from (t.node ∷ kids_of p.node) b (g.spans, h.kids)) h.far

graft_all_good : (text : List ℕ) (from : ℕ) (ps : List Part) (t : Part) → IsCharBoundary text from → Good text from t → AllGood text from ps → Good text from (graft_all from t ps)
graft_all_good text from [] t b g h = g
graft_all_good text from (p ∷ ps) t b g h = graft_all_good text from ps (grafted from t p) b (grafted_good text from t p b g h.0) h.1

gathered_good : (text : List ℕ) (from : ℕ) (s : List ℕ × List Part) (ps : List Part) → AllGood text from s.1 → AllGood text from ps → AllGood text from (gathered s ps).1
gathered_good text from s [] g h = g
gathered_good text from s (p ∷ ps) g h = by (is_spelling p) (gathered_good text from (spelled_more s.0 (text_of p.node), s.1) ps g h.1) (gathered_good text from (s.0, s.1 ++ p ∷ []) ps (both text from s.1 (p ∷ []) g (h.0, tt)) h.1)
  where
    by : (b : Bool) → AllGood text from (gathered (spelled_more s.0 (text_of p.node), s.1) ps).1 → AllGood text from (gathered (s.0, s.1 ++ p ∷ []) ps).1 → AllGood text from (gathered (cond b (spelled_more s.0 (text_of p.node), s.1) (s.0, s.1 ++ p ∷ [])) ps).1
    by true x y = x
    by false x y = y

same_node : (text : List ℕ) (from : ℕ) (p : Part) (depth : ℕ) → Good text from p → Good text from (record { node = p.node; depth = depth })
same_node text from p depth g = record { spans = g.spans; kids = g.kids; span = g.span; far = g.far }

-- ---- what builders make

module _ (text : List ℕ) (ts : List Token) (placed : ArePlaced text 0 ts) where
  pub span_lies : (i j : ℕ) → i ≤ j → j < length ts → LiesIn text (span_between ts i j)
  span_lies i j le lt = by (ltb i j) refl
    where
      piece : i < j → LiesIn text (record { from = start_of ts i; to = end_of ts j })
      piece h = record {
        ordered = (in_order text 0 ts i (j - 1) placed (omega arith) (omega arith)).1;
        begins = (token_lies text 0 ts i placed (omega arith)).0.begins;
        ends = (token_lies text 0 ts (j - 1) placed (omega arith)).0.ends;
      }

      less : (a b : ℕ) → ltb a b ≡ true → a < b
      less a b h = grind arith

      by : (b : Bool) → ltb i j ≡ b → LiesIn text (record { from = start_of ts i; to = cond b (end_of ts j) (start_of ts i) })
      by true e = piece (less i j e)
      by false e = at_lies text (start_of ts i) (token_lies text 0 ts i placed (omega arith)).0.begins

  begins : (i : ℕ) → i < length ts → IsCharBoundary text (start_of ts i)
  begins i lt = (token_lies text 0 ts i placed lt).0.begins

  leaf_good : (l : Leaf) (i : ℕ) → i < length ts → Good text (start_of ts i) (leaf ts l i)
  leaf_good l i lt = let t = token_lies text 0 ts i placed lt in node_good text (start_of ts i) (leaf_kind l (token_at ts i).word) (leaf_text l (token_at ts i).word (token_at ts i).text) [] (token_at ts i).span _ t.0 tt t.0.ordered

  built_good : (b : Builder) (i j : ℕ) (ps : List Part) → i ≤ j → j < length ts → AllGood text (start_of ts i) ps → Good text (start_of ts i) (built ts b i j ps)
  built_good (Over kind n) i j ps le lt h = over_good text kind [] (span_between ts i j) (padded (start_of ts i) n ps) (span_lies i j le lt) (padded_good text (start_of ts i) n ps (begins i (omega arith)) h)
  built_good (Named kind n) i j ps le lt h = over_good text kind (token_at ts i).text (span_between ts i j) (padded (start_of ts i) n ps) (span_lies i j le lt) (padded_good text (start_of ts i) n ps (begins i (omega arith)) h)
  built_good TypeWords i j ps le lt h = over_good text k.TypeSpec (gathered ([], []) ps).0 (span_between ts i j) (gathered ([], []) ps).1 (span_lies i j le lt) (gathered_good text (start_of ts i) ([], []) ps tt h)
  built_good Spellings i j ps le lt h = node_good text (start_of ts i) k.Keyword (gathered ([], []) ps).0 [] (span_between ts i j) _ (span_lies i j le lt) tt (span_lies i j le lt).ordered
  built_good Pointer i j [] le lt h = absent_good text (start_of ts i) (begins i (omega arith))
  built_good Pointer i j (p ∷ ps) le lt h = same_node text (start_of ts i) (over k.Ptr (text_of p.node) (span_between ts i j) (padded (start_of ts i) 1 ps)) _ (over_good text k.Ptr (text_of p.node) (span_between ts i j) (padded (start_of ts i) 1 ps) (span_lies i j le lt) (padded_good text (start_of ts i) 1 ps (begins i (omega arith)) h.1))
  built_good Chain i j [] le lt h = absent_good text (start_of ts i) (begins i (omega arith))
  built_good Chain i j (p ∷ ps) le lt h = graft_all_good text (start_of ts i) ps p (begins i (omega arith)) h.0 h.1
  built_good Rootless i j ps le lt h = graft_all_good text (start_of ts i) ps (absent (start_of ts i)) (begins i (omega arith)) (absent_good text (start_of ts i) (begins i (omega arith))) h
  built_good Joined i j [] le lt h = over_good text k.StrJoin [] (span_between ts i j) [] (span_lies i j le lt) tt
  built_good Joined i j (p ∷ []) le lt h = h.0
  built_good Joined i j (p ∷ q ∷ ps) le lt h = over_good text k.StrJoin [] (span_between ts i j) (p ∷ q ∷ ps) (span_lies i j le lt) h
  built_good Widened i j [] le lt h = absent_good text (start_of ts i) (begins i (omega arith))
  built_good Widened i j (p ∷ ps) le lt h = same_node text (start_of ts i) p _ h.0

  starts : (i j : ℕ) → i ≤ j → j < length ts → start_of ts i ≤ start_of ts j
  starts i j le lt = (in_order text 0 ts i j placed le lt).0

  take : (from : ℕ) (xs ys : List Part) → xs ≡ ys → AllGood text from ys → AllGood text from xs
  take from xs ys e h = subst (λ (ps : List Part). AllGood text from ps) (sym e) h

  -- any table of these builders
  module _ {L : Type 0} (S : Sets L) (rows : Table Leaf Builder L) (is : IsGrammar S rows) where
    onward : {c : Loop Leaf Builder L} {r : Rule Leaf Builder L} {xs : List Part} {i j : ℕ} → Derives (source ts) rows c r xs i j → i ≤ j
    onward d = forward (source ts) rows S is d

    good : {c : Loop Leaf Builder L} {r : Rule Leaf Builder L} {xs : List Part} {i j : ℕ} → Derives (source ts) rows c r xs i j → j < length ts → AllGood text (start_of ts i) xs
    good {xs = xs} {i = i} (d_done e s) lt = take (start_of ts i) xs [] e tt
    good {xs = xs} {i = i} (d_mark g e s) lt = take (start_of ts i) xs [] e tt
    good {xs = xs} {i = i} (d_word {k = l} g e s) lt = take (start_of ts i) xs (leaf ts l i ∷ []) e (leaf_good l i (omega (arith, s)), tt)
    good (d_ref d) lt = good d lt
    good (d_deep d) lt = good d lt
    good (d_again d) lt = good d lt
    good (d_rep d) lt = good d lt
    good {xs = xs} {i = i} {j = j} (d_seq m ys zs d e q) lt = take (start_of ts i) xs (ys ++ zs) q (both text (start_of ts i) ys zs (good d (omega (arith, onward e))) (later text (start_of ts i) (start_of ts m) zs (starts i m (onward d) (omega (arith, onward e))) (good e lt)))
    good {xs = xs} {i = i} (d_around m g d g' s) lt = later text (start_of ts i) (start_of ts (suc i)) xs (starts i (suc i) (omega arith) (omega (arith, s, onward d))) (good d (omega (arith, s)))
    good (d_left d) lt = good d lt
    good (d_right d) lt = good d lt
    good {xs = xs} {i = i} {j = j} (d_seen {w = l} {b = b} ys g g' d s) lt =
        take (start_of ts i) xs (built ts b i j (leaf ts l i ∷ ys) ∷ []) s
        (built_good b i j (leaf ts l i ∷ ys) (omega (arith, onward d)) lt (leaf_good l i (omega (arith, onward d)), later text (start_of ts i) (start_of ts (suc (suc i))) ys (starts i (suc (suc i)) (omega arith) (omega (arith, onward d))) (good d lt)), tt)
    good (d_unseen g d) lt = good d lt
    good (d_chosen g d) lt = good d lt
    good (d_unchosen g d) lt = good d lt
    good {xs = xs} {i = i} (d_without e s) lt = take (start_of ts i) xs [] e tt
    good (d_with d) lt = good d lt
    good {xs = xs} {i = i} (d_barred g e s) lt = take (start_of ts i) xs [] e tt
    good (d_taken d) lt = good d lt
    good {xs = xs} {i = i} {j = j} (d_make {b = b} ys d s) lt = take (start_of ts i) xs (built ts b i j ys ∷ []) s (built_good b i j ys (onward d) lt (good d lt), tt)

lie : (text : List ℕ) (from : ℕ) (ps : List Part) → AllGood text from ps → PartsLieIn text ps
lie text from [] h = tt
lie text from (p ∷ ps) h = (h.0.spans, lie text from ps h.1)

-- the same of what any table of these builders derives
pub derived_lie : (text : List ℕ) (ts : List Token) {L : Type 0} (S : Sets L) (rows : Table Leaf Builder L) {c : Loop Leaf Builder L} {r : Rule Leaf Builder L} {ps : List Part} {i j : ℕ} → ArePlaced text 0 ts → IsGrammar S rows → Derives (source ts) rows c r ps i j → j < length ts → PartsLieIn text ps
derived_lie text ts S rows {ps = ps} {i = i} placed is d lt = lie text (start_of ts i) ps (good text ts placed S rows is d lt)

-- the spans of the trees that a level spells lie in the text where the tokens do, up to one token before their end
pub spans_lie : (text : List ℕ) (ts : List Token) (l : Level) (ps : List Part) (i j : ℕ) → ArePlaced text 0 ts → j < length ts → IsPiece grammar tallest (source ts) l ps i j → PartsLieIn text ps
spans_lie text ts l ps i j placed lt s = derived_lie text ts sets table placed (is_grammar grammar sets ranks pass) s.spelled lt
