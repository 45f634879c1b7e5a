-- What a builder makes of parts whose spans lie in a text has its spans in the text.
use Rattle.std.proofs.Common.{ℕ, ◌≤◌, List, [], ◌∷◌, ◌++◌, sym, subst, arith, Bool, cond}
use Rattle.std.specs.Prelude.{All, true, false, ltb, codes}
use Rattle.std.specs.Str.{IsCharBoundary}
use Rattle.std.proofs.lemmas.List.Elements.{All-nil, All-cons, All-head, All-tail}
use Rattle.std.proofs.lemmas.List.Concat.{flat_map-cons}
use Rattle.node_tree.specs.declared.node.Node.{Node, out-Node, roll-Node}
use Rattle.node_tree.specs.declared.kind.Kind.{Kind}
use Rattle.node_tree.specs.declared.kind.Kind.TheVariants as k
use Rattle.node_tree.specs.declared.span.Span.{Span}
use Rattle.node_tree.specs.Span.{LiesIn}
use Rattle.node_tree.specs.Spans.{SpansLieIn}
use Rattle.node_tree.specs.Tree.{pre_of, pre_all, kids_of, kind_of, text_of, span_of}
use Rattle.node_tree.proofs.Nodes.{made_kids, made_span}
use Rattle.node_tree.proofs.Trees.{pre_is}
use Rattle.node_tree.proofs.SpanLaws.{AllLieIn, none_lie, more_lie, node_lies}
use Rattle.py_expr.specs.Parts.{Part, whole, lacking, call, more, clauses, display, sign, bounds, node, nodes_of}
use Rattle.py_expr.specs.Table.{Builder, Over, Signed, Lacking, SignedLacking, Chain, Joint, Further, Clauses, Grouped, Listed, ListOf, Braced, Entry, PairEntry, Undecided, Lambda, Conditional, Compared, Joined, Called, Sign, Yielded, Bounds, Slice, Sliced, Parameter, SignedParameter}
use Rattle.py_expr.specs.Build.{absent, empty_list, or_absent, grafted, others, widened, attached, farther, chain_from, chain, joint, listed, grouped, list_of, displayed, entry, undecided, braced, lambda_kids, conditional, compared, operators, joined_strings, called, one_sign, yielded, bounded, slice, sliced, parameter, slice_kids, made, too_deep, spine}

-- ---- nodes

some_left : (P : Node → Type 0) (xs ys : List Node) → All P (xs ++ ys) → All P xs
some_left P [] ys h = All-nil P
some_left P (x ∷ xs) ys h = All-cons P x xs (All-head P x (xs ++ ys) h) (some_left P xs ys (All-tail P x (xs ++ ys) h))

some_right : (P : Node → Type 0) (xs ys : List Node) → All P (xs ++ ys) → All P ys
some_right P [] ys h = h
some_right P (x ∷ xs) ys h = some_right P xs ys (All-tail P x (xs ++ ys) h)

abbrev Within : List ℕ → Node → Type 0
Within text n = LiesIn text (span_of n)

divided : (text : List ℕ) (n : Node) (ns : List Node) → AllLieIn text (n ∷ ns) → All (Within text) (pre_of n ++ pre_all ns)
divided text n ns h = subst (λ (ms : List Node). All (Within text) ms) (flat_map-cons pre_of n ns) h

-- some nodes lie where each does
pub first_lies : (text : List ℕ) (n : Node) (ns : List Node) → AllLieIn text (n ∷ ns) → SpansLieIn text n
first_lies text n ns h = some_left (Within text) (pre_of n) (pre_all ns) (divided text n ns h)

rest_lie : (text : List ℕ) (n : Node) (ns : List Node) → AllLieIn text (n ∷ ns) → AllLieIn text ns
rest_lie text n ns h = some_right (Within text) (pre_of n) (pre_all ns) (divided text n ns h)

pub both_lie : (text : List ℕ) (xs ys : List Node) → AllLieIn text xs → AllLieIn text ys → AllLieIn text (xs ++ ys)
both_lie text [] ys h g = g
both_lie text (x ∷ xs) ys h g = more_lie text x (xs ++ ys) (first_lies text x xs h) (both_lie text xs ys (rest_lie text x xs h) g)

pub over_lies : (text : List ℕ) (kind : Kind) (written : List ℕ) (from to : ℕ) (kids : List Node) → LiesIn text (record { from = from; to = to }) → AllLieIn text kids → SpansLieIn text (node kind written from to kids)
over_lies text kind written from to kids lies all =
    node_lies text (node kind written from to kids) (subst (λ (s : Span). LiesIn text s) (sym (made_span kind written kids (record { from = from; to = to }))) lies)
    (subst (λ (ns : List Node). AllLieIn text ns) (sym (made_kids kind written kids (record { from = from; to = to }))) all)

opened : (text : List ℕ) (n : Node) → SpansLieIn text n → All (Within text) (n ∷ pre_all (kids_of n))
opened text n h = subst (λ (ms : List Node). All (Within text) ms) (pre_is n) h

pub span_lies : (text : List ℕ) (n : Node) → SpansLieIn text n → LiesIn text (span_of n)
span_lies text n h = All-head (Within text) n (pre_all (kids_of n)) (opened text n h)

pub kids_lie : (text : List ℕ) (n : Node) → SpansLieIn text n → AllLieIn text (kids_of n)
kids_lie text n h = All-tail (Within text) n (pre_all (kids_of n)) (opened text n h)

pub at_place : (text : List ℕ) (at : ℕ) → IsCharBoundary text at → LiesIn text (record { from = at; to = at })
at_place text at b = record { ordered = omega arith; begins = b; ends = b }

-- ---- parts

-- what a part holds lies in the text, and where it is to become a node, A says where it ends
abbrev pub PartLies : List ℕ → (ℕ → Type 0) → Part → Type 0
PartLies text A (whole n) = SpansLieIn text n
PartLies text A (lacking kind written to kids) = A to × IsCharBoundary text to × AllLieIn text kids
PartLies text A (call to) = A to × IsCharBoundary text to
PartLies text A (more ns) = AllLieIn text ns
PartLies text A (clauses ns) = AllLieIn text ns
PartLies text A (display kind written ns) = AllLieIn text ns
PartLies text A (sign s) = Unit {0}
PartLies text A (bounds hs ss) = AllLieIn text hs × AllLieIn text ss

-- some parts
abbrev pub Lie : List ℕ → (ℕ → Type 0) → List Part → Type 0
Lie text A [] = Unit {0}
Lie text A (p ∷ ps) = PartLies text A p × Lie text A ps

pub joined_lie : (text : List ℕ) (A : ℕ → Type 0) (ys zs : List Part) → Lie text A ys → Lie text A zs → Lie text A (ys ++ zs)
joined_lie text A [] zs h g = g
joined_lie text A (y ∷ ys) zs h g = (h.0, joined_lie text A ys zs h.1 g)

-- where A says less
weaker : (text : List ℕ) (A C : ℕ → Type 0) (p : Part) → ((to : ℕ) → A to → C to) → PartLies text A p → PartLies text C p
weaker text A C (whole n) f h = h
weaker text A C (lacking kind written to kids) f h = (f to h.0, h.1, h.2)
weaker text A C (call to) f h = (f to h.0, h.1)
weaker text A C (more ns) f h = h
weaker text A C (clauses ns) f h = h
weaker text A C (display kind written ns) f h = h
weaker text A C (sign s) f h = h
weaker text A C (bounds hs ss) f h = h

pub less_lie : (text : List ℕ) (A C : ℕ → Type 0) (ps : List Part) → ((to : ℕ) → A to → C to) → Lie text A ps → Lie text C ps
less_lie text A C [] f h = tt
less_lie text A C (p ∷ ps) f h = (weaker text A C p f h.0, less_lie text A C ps f h.1)

pub nodes_lie : (text : List ℕ) (A : ℕ → Type 0) (ps : List Part) → Lie text A ps → AllLieIn text (nodes_of ps)
nodes_lie text A [] h = none_lie text
nodes_lie text A (whole n ∷ ps) h = more_lie text n (nodes_of ps) h.0 (nodes_lie text A ps h.1)
nodes_lie text A (lacking kind written to kids ∷ ps) h = more_lie text (node kind written to to kids) (nodes_of ps) (over_lies text kind written to to kids (at_place text to h.0.1) h.0.2) (nodes_lie text A ps h.1)
nodes_lie text A (call to ∷ ps) h = nodes_lie text A ps h.1
nodes_lie text A (more ns ∷ ps) h = both_lie text ns (nodes_of ps) h.0 (nodes_lie text A ps h.1)
nodes_lie text A (clauses ns ∷ ps) h = both_lie text ns (nodes_of ps) h.0 (nodes_lie text A ps h.1)
nodes_lie text A (display kind written ns ∷ ps) h = both_lie text ns (nodes_of ps) h.0 (nodes_lie text A ps h.1)
nodes_lie text A (sign s ∷ ps) h = nodes_lie text A ps h.1
nodes_lie text A (bounds hs ss ∷ ps) h = both_lie text hs (ss ++ nodes_of ps) h.0.0 (both_lie text ss (nodes_of ps) h.0.1 (nodes_lie text A ps h.1))

either_lies : (text : List ℕ) (c : Bool) (x y : Node) → SpansLieIn text x → SpansLieIn text y → SpansLieIn text (cond c x y)
either_lies text true x y h g = h
either_lies text false x y h g = g

others_lie : (text : List ℕ) (A : ℕ → Type 0) (p : Part) → PartLies text A p → AllLieIn text (others p)
others_lie text A (lacking kind written to ns) h = h.2
others_lie text A (call to) h = none_lie text
others_lie text A (whole m) h = nodes_lie text A (whole m ∷ []) (h, tt)
others_lie text A (more ns) h = nodes_lie text A (more ns ∷ []) (h, tt)
others_lie text A (clauses ns) h = nodes_lie text A (clauses ns ∷ []) (h, tt)
others_lie text A (display kind written ns) h = nodes_lie text A (display kind written ns ∷ []) (h, tt)
others_lie text A (sign s) h = none_lie text
others_lie text A (bounds hs ss) h = nodes_lie text A (bounds hs ss ∷ []) (h, tt)

wider_lies : (text : List ℕ) (A : ℕ → Type 0) (n : Node) (p : Part) → SpansLieIn text n → PartLies text A p → SpansLieIn text (roll-Node (record (out-Node n) { kids = kids_of n ++ others p }))
wider_lies text A n p h g = over_lies text (kind_of n) (text_of n) (span_of n).from (span_of n).to (kids_of n ++ others p) (span_lies text n h) (both_lie text (kids_of n) (others p) (kids_lie text n h) (others_lie text A p g))

widened_lies : (text : List ℕ) (A : ℕ → Type 0) (n : Node) (p : Part) → SpansLieIn text n → PartLies text A p → SpansLieIn text (widened n p)
widened_lies text A n (call to) h g = h
widened_lies text A n (whole m) h g = wider_lies text A n (whole m) h g
widened_lies text A n (lacking kind written to ns) h g = wider_lies text A n (lacking kind written to ns) h g
widened_lies text A n (more ns) h g = wider_lies text A n (more ns) h g
widened_lies text A n (clauses ns) h g = wider_lies text A n (clauses ns) h g
widened_lies text A n (display kind written ns) h g = wider_lies text A n (display kind written ns) h g
widened_lies text A n (sign s) h g = wider_lies text A n (sign s) h g
widened_lies text A n (bounds hs ss) h g = wider_lies text A n (bounds hs ss) h g

-- ---- builders, over a piece that lies in the text, and that begins before where its parts end
module _ (text : List ℕ) (A : ℕ → Type 0) (from to : ℕ) (lies : LiesIn text (record { from = from; to = to })) (before : (x : ℕ) → A x → from ≤ x) (after : A to) where
  here : LiesIn text (record { from = from; to = from })
  here = at_place text from lies.begins

  absent_lies : SpansLieIn text (absent from)
  absent_lies = over_lies text k.Absent [] from from [] here (none_lie text)

  other_lies : (n : Node) (p : Part) → SpansLieIn text n → PartLies text A p → SpansLieIn text (node k.List [] from from (n ∷ nodes_of (p ∷ [])))
  other_lies n p h g = over_lies text k.List [] from from (n ∷ nodes_of (p ∷ [])) here (more_lie text n (nodes_of (p ∷ [])) h (nodes_lie text A (p ∷ []) (g, tt)))

  grafted_lies : (n : Node) (p : Part) → SpansLieIn text n → PartLies text A p → SpansLieIn text (grafted from n p)
  grafted_lies n (lacking kind written e ns) h g = over_lies text kind written from e (n ∷ ns) (record { ordered = before e g.0; begins = lies.begins; ends = g.1 }) (more_lie text n ns h g.2)
  grafted_lies n (call e) h g = over_lies text k.Call [] from e (n ∷ empty_list from ∷ []) (record { ordered = before e g.0; begins = lies.begins; ends = g.1 }) (more_lie text n (empty_list from ∷ []) h (more_lie text (empty_list from) [] (over_lies text k.List [] from from [] here (none_lie text)) (none_lie text)))
  grafted_lies n (whole m) h g = other_lies n (whole m) h g
  grafted_lies n (more ns) h g = other_lies n (more ns) h g
  grafted_lies n (clauses ns) h g = other_lies n (clauses ns) h g
  grafted_lies n (display kind written ns) h g = other_lies n (display kind written ns) h g
  grafted_lies n (sign s) h g = other_lies n (sign s) h g
  grafted_lies n (bounds hs ss) h g = other_lies n (bounds hs ss) h g

  attached_lies : (far : ℕ) (n : Node) (p : Part) → SpansLieIn text n → PartLies text A p → SpansLieIn text (attached from far n p)
  attached_lies far n p h g = either_lies text (ltb far too_deep) (grafted from n p) (widened n p) (grafted_lies n p h g) (widened_lies text A n p h g)

  chain_from_lies : (far : ℕ) (ps : List Part) (n : Node) → SpansLieIn text n → Lie text A ps → SpansLieIn text (chain_from from far n ps)
  chain_from_lies far [] n h g = h
  chain_from_lies far (p ∷ ps) n h g = chain_from_lies (farther far) ps (attached from far n p) (attached_lies far n p h g.0) g.1

  -- ---- what each builder makes

  chain_lies : (ps : List Part) → Lie text A ps → Lie text A (chain from ps)
  chain_lies [] h = h
  chain_lies (whole n0 ∷ ps) h = (chain_from_lies (spine too_deep n0) ps n0 h.0 h.1, tt)
  chain_lies (lacking k0 t0 e0 ns0 ∷ ps) h = h
  chain_lies (call e0 ∷ ps) h = h
  chain_lies (more ns0 ∷ ps) h = h
  chain_lies (clauses ns0 ∷ ps) h = h
  chain_lies (display k0 t0 ns0 ∷ ps) h = h
  chain_lies (sign s0 ∷ ps) h = h
  chain_lies (bounds hs0 ss0 ∷ ps) h = h

  joint_lies : (ps : List Part) → Lie text A ps → Lie text A (joint from ps)
  joint_lies [] h = h
  joint_lies (whole n0 ∷ []) h = h
  joint_lies (whole n0 ∷ whole n1 ∷ ps) h = h
  joint_lies (whole n0 ∷ lacking k1 t1 e1 ns1 ∷ ps) h = (grafted_lies n0 (lacking k1 t1 e1 ns1) h.0 h.1.0, h.1.1)
  joint_lies (whole n0 ∷ call e1 ∷ ps) h = h
  joint_lies (whole n0 ∷ more ns1 ∷ ps) h = h
  joint_lies (whole n0 ∷ clauses ns1 ∷ ps) h = h
  joint_lies (whole n0 ∷ display k1 t1 ns1 ∷ ps) h = h
  joint_lies (whole n0 ∷ sign s1 ∷ ps) h = h
  joint_lies (whole n0 ∷ bounds hs1 ss1 ∷ ps) h = h
  joint_lies (lacking k0 t0 e0 ns0 ∷ ps) h = h
  joint_lies (call e0 ∷ ps) h = h
  joint_lies (more ns0 ∷ ps) h = h
  joint_lies (clauses ns0 ∷ ps) h = h
  joint_lies (display k0 t0 ns0 ∷ ps) h = h
  joint_lies (sign s0 ∷ ps) h = h
  joint_lies (bounds hs0 ss0 ∷ ps) h = h

  listed_lies : (kind : Kind) (form : List ℕ) (ps : List Part) → Lie text A ps → Lie text A (listed kind form from to ps)
  listed_lies kind form [] h = (over_lies text kind [] from to ([]) lies (none_lie text), tt)
  listed_lies kind form (whole n0 ∷ []) h = (over_lies text kind [] from to (n0 ∷ []) lies (more_lie text n0 [] h.0 (none_lie text)), tt)
  listed_lies kind form (whole n0 ∷ whole n1 ∷ ps) h = h
  listed_lies kind form (whole n0 ∷ lacking k1 t1 e1 ns1 ∷ ps) h = h
  listed_lies kind form (whole n0 ∷ call e1 ∷ ps) h = h
  listed_lies kind form (whole n0 ∷ more ns1 ∷ []) h = (over_lies text kind [] from to (n0 ∷ ns1) lies (more_lie text n0 ns1 h.0 h.1.0), tt)
  listed_lies kind form (whole n0 ∷ more ns1 ∷ p ∷ ps) h = h
  listed_lies kind form (whole n0 ∷ clauses ns1 ∷ []) h = (over_lies text k.Comp form from to (n0 ∷ ns1) lies (more_lie text n0 ns1 h.0 h.1.0), tt)
  listed_lies kind form (whole n0 ∷ clauses ns1 ∷ p ∷ ps) h = h
  listed_lies kind form (whole n0 ∷ display k1 t1 ns1 ∷ ps) h = h
  listed_lies kind form (whole n0 ∷ sign s1 ∷ ps) h = h
  listed_lies kind form (whole n0 ∷ bounds hs1 ss1 ∷ ps) h = h
  listed_lies kind form (lacking k0 t0 e0 ns0 ∷ ps) h = h
  listed_lies kind form (call e0 ∷ ps) h = h
  listed_lies kind form (more ns0 ∷ ps) h = h
  listed_lies kind form (clauses ns0 ∷ ps) h = h
  listed_lies kind form (display k0 t0 ns0 ∷ ps) h = h
  listed_lies kind form (sign s0 ∷ ps) h = h
  listed_lies kind form (bounds hs0 ss0 ∷ ps) h = h

  grouped_lies : (ps : List Part) → Lie text A ps → Lie text A (grouped from to ps)
  grouped_lies [] h = listed_lies k.Tuple (codes "gen") [] h
  grouped_lies (whole n0 ∷ []) h = h
  grouped_lies (whole n0 ∷ p ∷ ps) h = listed_lies k.Tuple (codes "gen") (whole n0 ∷ p ∷ ps) h
  grouped_lies (lacking k0 t0 e0 ns0 ∷ ps) h = listed_lies k.Tuple (codes "gen") (lacking k0 t0 e0 ns0 ∷ ps) h
  grouped_lies (call e0 ∷ ps) h = listed_lies k.Tuple (codes "gen") (call e0 ∷ ps) h
  grouped_lies (more ns0 ∷ ps) h = listed_lies k.Tuple (codes "gen") (more ns0 ∷ ps) h
  grouped_lies (clauses ns0 ∷ ps) h = listed_lies k.Tuple (codes "gen") (clauses ns0 ∷ ps) h
  grouped_lies (display k0 t0 ns0 ∷ ps) h = listed_lies k.Tuple (codes "gen") (display k0 t0 ns0 ∷ ps) h
  grouped_lies (sign s0 ∷ ps) h = listed_lies k.Tuple (codes "gen") (sign s0 ∷ ps) h
  grouped_lies (bounds hs0 ss0 ∷ ps) h = listed_lies k.Tuple (codes "gen") (bounds hs0 ss0 ∷ ps) h

  list_of_lies : (ps : List Part) → Lie text A ps → Lie text A (list_of from to ps)
  list_of_lies [] h = listed_lies k.List [] [] h
  list_of_lies (whole n0 ∷ []) h = listed_lies k.List [] (whole n0 ∷ []) h
  list_of_lies (whole n0 ∷ whole n1 ∷ ps) h = listed_lies k.List [] (whole n0 ∷ whole n1 ∷ ps) h
  list_of_lies (whole n0 ∷ lacking k1 t1 e1 ns1 ∷ ps) h = listed_lies k.List [] (whole n0 ∷ lacking k1 t1 e1 ns1 ∷ ps) h
  list_of_lies (whole n0 ∷ call e1 ∷ ps) h = listed_lies k.List [] (whole n0 ∷ call e1 ∷ ps) h
  list_of_lies (whole n0 ∷ more ns1 ∷ ps) h = listed_lies k.List [] (whole n0 ∷ more ns1 ∷ ps) h
  list_of_lies (whole n0 ∷ clauses ns1 ∷ []) h = (over_lies text k.List [] from to (node k.Comp (codes "gen") from to (n0 ∷ ns1) ∷ []) lies (more_lie text (node k.Comp (codes "gen") from to (n0 ∷ ns1)) [] (over_lies text k.Comp (codes "gen") from to (n0 ∷ ns1) lies (more_lie text n0 ns1 h.0 h.1.0)) (none_lie text)), tt)
  list_of_lies (whole n0 ∷ clauses ns1 ∷ p ∷ ps) h = listed_lies k.List [] (whole n0 ∷ clauses ns1 ∷ p ∷ ps) h
  list_of_lies (whole n0 ∷ display k1 t1 ns1 ∷ ps) h = listed_lies k.List [] (whole n0 ∷ display k1 t1 ns1 ∷ ps) h
  list_of_lies (whole n0 ∷ sign s1 ∷ ps) h = listed_lies k.List [] (whole n0 ∷ sign s1 ∷ ps) h
  list_of_lies (whole n0 ∷ bounds hs1 ss1 ∷ ps) h = listed_lies k.List [] (whole n0 ∷ bounds hs1 ss1 ∷ ps) h
  list_of_lies (lacking k0 t0 e0 ns0 ∷ ps) h = listed_lies k.List [] (lacking k0 t0 e0 ns0 ∷ ps) h
  list_of_lies (call e0 ∷ ps) h = listed_lies k.List [] (call e0 ∷ ps) h
  list_of_lies (more ns0 ∷ ps) h = listed_lies k.List [] (more ns0 ∷ ps) h
  list_of_lies (clauses ns0 ∷ ps) h = listed_lies k.List [] (clauses ns0 ∷ ps) h
  list_of_lies (display k0 t0 ns0 ∷ ps) h = listed_lies k.List [] (display k0 t0 ns0 ∷ ps) h
  list_of_lies (sign s0 ∷ ps) h = listed_lies k.List [] (sign s0 ∷ ps) h
  list_of_lies (bounds hs0 ss0 ∷ ps) h = listed_lies k.List [] (bounds hs0 ss0 ∷ ps) h

  displayed_lies : (kind : Kind) (form : List ℕ) (ps : List Part) → Lie text A ps → Lie text A (displayed kind form ps)
  displayed_lies kind form [] h = h
  displayed_lies kind form (whole n0 ∷ []) h = (more_lie text n0 [] h.0 (none_lie text), tt)
  displayed_lies kind form (whole n0 ∷ whole n1 ∷ ps) h = h
  displayed_lies kind form (whole n0 ∷ lacking k1 t1 e1 ns1 ∷ ps) h = h
  displayed_lies kind form (whole n0 ∷ call e1 ∷ ps) h = h
  displayed_lies kind form (whole n0 ∷ more ns1 ∷ []) h = (more_lie text n0 ns1 h.0 h.1.0, tt)
  displayed_lies kind form (whole n0 ∷ more ns1 ∷ p ∷ ps) h = h
  displayed_lies kind form (whole n0 ∷ clauses ns1 ∷ []) h = (more_lie text n0 ns1 h.0 h.1.0, tt)
  displayed_lies kind form (whole n0 ∷ clauses ns1 ∷ p ∷ ps) h = h
  displayed_lies kind form (whole n0 ∷ display k1 t1 ns1 ∷ ps) h = h
  displayed_lies kind form (whole n0 ∷ sign s1 ∷ ps) h = h
  displayed_lies kind form (whole n0 ∷ bounds hs1 ss1 ∷ ps) h = h
  displayed_lies kind form (lacking k0 t0 e0 ns0 ∷ ps) h = h
  displayed_lies kind form (call e0 ∷ ps) h = h
  displayed_lies kind form (more ns0 ∷ ps) h = h
  displayed_lies kind form (clauses ns0 ∷ ps) h = h
  displayed_lies kind form (display k0 t0 ns0 ∷ ps) h = h
  displayed_lies kind form (sign s0 ∷ ps) h = h
  displayed_lies kind form (bounds hs0 ss0 ∷ ps) h = h

  entry_lies : (ps : List Part) → Lie text A ps → Lie text A (entry from ps)
  entry_lies [] h = displayed_lies k.SetLit (codes "set") [] h
  entry_lies (whole n0 ∷ []) h = displayed_lies k.SetLit (codes "set") (whole n0 ∷ []) h
  entry_lies (whole n0 ∷ whole n1 ∷ ps) h = displayed_lies k.SetLit (codes "set") (whole n0 ∷ whole n1 ∷ ps) h
  entry_lies (whole n0 ∷ lacking k1 t1 e1 ns1 ∷ ps) h = displayed_lies k.DictLit (codes "dict") (whole (node k1 t1 from e1 (n0 ∷ ns1)) ∷ ps) (grafted_lies n0 (lacking k1 t1 e1 ns1) h.0 h.1.0, h.1.1)
  entry_lies (whole n0 ∷ call e1 ∷ ps) h = displayed_lies k.SetLit (codes "set") (whole n0 ∷ call e1 ∷ ps) h
  entry_lies (whole n0 ∷ more ns1 ∷ ps) h = displayed_lies k.SetLit (codes "set") (whole n0 ∷ more ns1 ∷ ps) h
  entry_lies (whole n0 ∷ clauses ns1 ∷ ps) h = displayed_lies k.SetLit (codes "set") (whole n0 ∷ clauses ns1 ∷ ps) h
  entry_lies (whole n0 ∷ display k1 t1 ns1 ∷ ps) h = displayed_lies k.SetLit (codes "set") (whole n0 ∷ display k1 t1 ns1 ∷ ps) h
  entry_lies (whole n0 ∷ sign s1 ∷ ps) h = displayed_lies k.SetLit (codes "set") (whole n0 ∷ sign s1 ∷ ps) h
  entry_lies (whole n0 ∷ bounds hs1 ss1 ∷ ps) h = displayed_lies k.SetLit (codes "set") (whole n0 ∷ bounds hs1 ss1 ∷ ps) h
  entry_lies (lacking k0 t0 e0 ns0 ∷ ps) h = displayed_lies k.SetLit (codes "set") (lacking k0 t0 e0 ns0 ∷ ps) h
  entry_lies (call e0 ∷ ps) h = displayed_lies k.SetLit (codes "set") (call e0 ∷ ps) h
  entry_lies (more ns0 ∷ ps) h = displayed_lies k.SetLit (codes "set") (more ns0 ∷ ps) h
  entry_lies (clauses ns0 ∷ ps) h = displayed_lies k.SetLit (codes "set") (clauses ns0 ∷ ps) h
  entry_lies (display k0 t0 ns0 ∷ ps) h = displayed_lies k.SetLit (codes "set") (display k0 t0 ns0 ∷ ps) h
  entry_lies (sign s0 ∷ ps) h = displayed_lies k.SetLit (codes "set") (sign s0 ∷ ps) h
  entry_lies (bounds hs0 ss0 ∷ ps) h = displayed_lies k.SetLit (codes "set") (bounds hs0 ss0 ∷ ps) h

  braced_lies : (ps : List Part) → Lie text A ps → Lie text A (braced from to ps)
  braced_lies [] h = (over_lies text k.DictLit [] from to ([]) lies (none_lie text), tt)
  braced_lies (whole n0 ∷ ps) h = h
  braced_lies (lacking k0 t0 e0 ns0 ∷ ps) h = h
  braced_lies (call e0 ∷ ps) h = h
  braced_lies (more ns0 ∷ ps) h = h
  braced_lies (clauses ns0 ∷ ps) h = h
  braced_lies (display k0 t0 ns0 ∷ []) h = (over_lies text k0 t0 from to (ns0) lies (h.0), tt)
  braced_lies (display k0 t0 ns0 ∷ p ∷ ps) h = h
  braced_lies (sign s0 ∷ ps) h = h
  braced_lies (bounds hs0 ss0 ∷ ps) h = h

  undecided_lies : (front : List Node) (ps : List Part) → AllLieIn text front → Lie text A ps → PartLies text A (undecided front ps)
  undecided_lies front [] f h = f
  undecided_lies front (whole n ∷ ps) f h = undecided_lies (front ++ n ∷ []) ps (both_lie text front (n ∷ []) f (more_lie text n [] h.0 (none_lie text))) h.1
  undecided_lies front (display kind written ns ∷ []) f h = both_lie text front ns f h.0
  undecided_lies front (display kind written ns ∷ q ∷ ps) f h = undecided_lies (front ++ nodes_of (display kind written ns ∷ [])) (q ∷ ps) (both_lie text front (nodes_of (display kind written ns ∷ [])) f (nodes_lie text A (display kind written ns ∷ []) (h.0, tt))) h.1
  undecided_lies front (lacking kind written e ns ∷ ps) f h = undecided_lies (front ++ nodes_of (lacking kind written e ns ∷ [])) ps (both_lie text front (nodes_of (lacking kind written e ns ∷ [])) f (nodes_lie text A (lacking kind written e ns ∷ []) (h.0, tt))) h.1
  undecided_lies front (call e ∷ ps) f h = undecided_lies (front ++ nodes_of (call e ∷ [])) ps (both_lie text front (nodes_of (call e ∷ [])) f (nodes_lie text A (call e ∷ []) (h.0, tt))) h.1
  undecided_lies front (more ns ∷ ps) f h = undecided_lies (front ++ nodes_of (more ns ∷ [])) ps (both_lie text front (nodes_of (more ns ∷ [])) f (nodes_lie text A (more ns ∷ []) (h.0, tt))) h.1
  undecided_lies front (clauses ns ∷ ps) f h = undecided_lies (front ++ nodes_of (clauses ns ∷ [])) ps (both_lie text front (nodes_of (clauses ns ∷ [])) f (nodes_lie text A (clauses ns ∷ []) (h.0, tt))) h.1
  undecided_lies front (sign s ∷ ps) f h = undecided_lies (front ++ nodes_of (sign s ∷ [])) ps (both_lie text front (nodes_of (sign s ∷ [])) f (nodes_lie text A (sign s ∷ []) (h.0, tt))) h.1
  undecided_lies front (bounds hs ss ∷ ps) f h = undecided_lies (front ++ nodes_of (bounds hs ss ∷ [])) ps (both_lie text front (nodes_of (bounds hs ss ∷ [])) f (nodes_lie text A (bounds hs ss ∷ []) (h.0, tt))) h.1

  lambda_lies : (ps : List Part) → Lie text A ps → AllLieIn text (lambda_kids from ps)
  lambda_lies [] h = nodes_lie text A [] h
  lambda_lies (whole n0 ∷ []) h = more_lie text (empty_list from) (n0 ∷ []) (over_lies text k.List [] from from [] here (none_lie text)) (more_lie text n0 [] h.0 (none_lie text))
  lambda_lies (whole n0 ∷ p ∷ ps) h = nodes_lie text A (whole n0 ∷ p ∷ ps) h
  lambda_lies (lacking k0 t0 e0 ns0 ∷ ps) h = nodes_lie text A (lacking k0 t0 e0 ns0 ∷ ps) h
  lambda_lies (call e0 ∷ ps) h = nodes_lie text A (call e0 ∷ ps) h
  lambda_lies (more ns0 ∷ ps) h = nodes_lie text A (more ns0 ∷ ps) h
  lambda_lies (clauses ns0 ∷ ps) h = nodes_lie text A (clauses ns0 ∷ ps) h
  lambda_lies (display k0 t0 ns0 ∷ ps) h = nodes_lie text A (display k0 t0 ns0 ∷ ps) h
  lambda_lies (sign s0 ∷ ps) h = nodes_lie text A (sign s0 ∷ ps) h
  lambda_lies (bounds hs0 ss0 ∷ ps) h = nodes_lie text A (bounds hs0 ss0 ∷ ps) h

  conditional_lies : (ps : List Part) → Lie text A ps → Lie text A (conditional from to ps)
  conditional_lies [] h = h
  conditional_lies (whole n0 ∷ []) h = h
  conditional_lies (whole n0 ∷ whole n1 ∷ ps) h = h
  conditional_lies (whole n0 ∷ lacking k1 t1 e1 [] ∷ []) h = h
  conditional_lies (whole n0 ∷ lacking k1 t1 e1 (c ∷ ns) ∷ []) h = (over_lies text k1 t1 from to (c ∷ n0 ∷ ns) lies (more_lie text c (n0 ∷ ns) (first_lies text c ns h.1.0.2) (more_lie text n0 ns h.0 (rest_lie text c ns h.1.0.2))), tt)
  conditional_lies (whole n0 ∷ lacking k1 t1 e1 [] ∷ p ∷ ps) h = h
  conditional_lies (whole n0 ∷ lacking k1 t1 e1 (c ∷ ns) ∷ p ∷ ps) h = h
  conditional_lies (whole n0 ∷ call e1 ∷ ps) h = h
  conditional_lies (whole n0 ∷ more ns1 ∷ ps) h = h
  conditional_lies (whole n0 ∷ clauses ns1 ∷ ps) h = h
  conditional_lies (whole n0 ∷ display k1 t1 ns1 ∷ ps) h = h
  conditional_lies (whole n0 ∷ sign s1 ∷ ps) h = h
  conditional_lies (whole n0 ∷ bounds hs1 ss1 ∷ ps) h = h
  conditional_lies (lacking k0 t0 e0 ns0 ∷ ps) h = h
  conditional_lies (call e0 ∷ ps) h = h
  conditional_lies (more ns0 ∷ ps) h = h
  conditional_lies (clauses ns0 ∷ ps) h = h
  conditional_lies (display k0 t0 ns0 ∷ ps) h = h
  conditional_lies (sign s0 ∷ ps) h = h
  conditional_lies (bounds hs0 ss0 ∷ ps) h = h

  compared_lies : (ps : List Part) → Lie text A ps → Lie text A (compared from to ps)
  compared_lies [] h = h
  compared_lies (whole n0 ∷ []) h = h
  compared_lies (whole n0 ∷ whole n1 ∷ ps) h = h
  compared_lies (whole n0 ∷ lacking k1 t1 e1 ns1 ∷ ps) h = h
  compared_lies (whole n0 ∷ call e1 ∷ ps) h = h
  compared_lies (whole n0 ∷ more ns1 ∷ ps) h = h
  compared_lies (whole n0 ∷ clauses ns1 ∷ ps) h = h
  compared_lies (whole n0 ∷ display k1 t1 ns1 ∷ ps) h = h
  compared_lies (whole n0 ∷ sign s1 ∷ []) h = h
  compared_lies (whole n0 ∷ sign s1 ∷ whole n2 ∷ ps) h = (over_lies text k.Compare (operators s1 ps) from to (n0 ∷ n2 ∷ nodes_of ps) lies (more_lie text n0 (n2 ∷ nodes_of ps) h.0 (more_lie text n2 (nodes_of ps) h.1.1.0 (nodes_lie text A ps h.1.1.1))), tt)
  compared_lies (whole n0 ∷ sign s1 ∷ lacking k2 t2 e2 ns2 ∷ ps) h = h
  compared_lies (whole n0 ∷ sign s1 ∷ call e2 ∷ ps) h = h
  compared_lies (whole n0 ∷ sign s1 ∷ more ns2 ∷ ps) h = h
  compared_lies (whole n0 ∷ sign s1 ∷ clauses ns2 ∷ ps) h = h
  compared_lies (whole n0 ∷ sign s1 ∷ display k2 t2 ns2 ∷ ps) h = h
  compared_lies (whole n0 ∷ sign s1 ∷ sign s2 ∷ ps) h = h
  compared_lies (whole n0 ∷ sign s1 ∷ bounds hs2 ss2 ∷ ps) h = h
  compared_lies (whole n0 ∷ bounds hs1 ss1 ∷ ps) h = h
  compared_lies (lacking k0 t0 e0 ns0 ∷ ps) h = h
  compared_lies (call e0 ∷ ps) h = h
  compared_lies (more ns0 ∷ ps) h = h
  compared_lies (clauses ns0 ∷ ps) h = h
  compared_lies (display k0 t0 ns0 ∷ ps) h = h
  compared_lies (sign s0 ∷ ps) h = h
  compared_lies (bounds hs0 ss0 ∷ ps) h = h

  joined_lies : (ps : List Part) → Lie text A ps → Lie text A (joined_strings from to ps)
  joined_lies [] h = h
  joined_lies (whole n0 ∷ []) h = h
  joined_lies (whole n0 ∷ whole n1 ∷ ps) h = h
  joined_lies (whole n0 ∷ lacking k1 t1 e1 ns1 ∷ ps) h = h
  joined_lies (whole n0 ∷ call e1 ∷ ps) h = h
  joined_lies (whole n0 ∷ more ns1 ∷ []) h = (over_lies text k.StrJoin [] from to (n0 ∷ ns1) lies (more_lie text n0 ns1 h.0 h.1.0), tt)
  joined_lies (whole n0 ∷ more ns1 ∷ p ∷ ps) h = h
  joined_lies (whole n0 ∷ clauses ns1 ∷ ps) h = h
  joined_lies (whole n0 ∷ display k1 t1 ns1 ∷ ps) h = h
  joined_lies (whole n0 ∷ sign s1 ∷ ps) h = h
  joined_lies (whole n0 ∷ bounds hs1 ss1 ∷ ps) h = h
  joined_lies (lacking k0 t0 e0 ns0 ∷ ps) h = h
  joined_lies (call e0 ∷ ps) h = h
  joined_lies (more ns0 ∷ ps) h = h
  joined_lies (clauses ns0 ∷ ps) h = h
  joined_lies (display k0 t0 ns0 ∷ ps) h = h
  joined_lies (sign s0 ∷ ps) h = h
  joined_lies (bounds hs0 ss0 ∷ ps) h = h

  called_lies : (ps : List Part) → Lie text A ps → Lie text A (called to ps)
  called_lies [] h = ((after, lies.ends), tt)
  called_lies (p ∷ ps) h = ((after, lies.ends, nodes_lie text A (p ∷ ps) h), tt)

  one_sign_lies : (ps : List Part) → Lie text A ps → Lie text A (one_sign ps)
  one_sign_lies [] h = h
  one_sign_lies (whole n0 ∷ ps) h = h
  one_sign_lies (lacking k0 t0 e0 ns0 ∷ ps) h = h
  one_sign_lies (call e0 ∷ ps) h = h
  one_sign_lies (more ns0 ∷ ps) h = h
  one_sign_lies (clauses ns0 ∷ ps) h = h
  one_sign_lies (display k0 t0 ns0 ∷ ps) h = h
  one_sign_lies (sign s0 ∷ []) h = h
  one_sign_lies (sign s0 ∷ whole n1 ∷ ps) h = h
  one_sign_lies (sign s0 ∷ lacking k1 t1 e1 ns1 ∷ ps) h = h
  one_sign_lies (sign s0 ∷ call e1 ∷ ps) h = h
  one_sign_lies (sign s0 ∷ more ns1 ∷ ps) h = h
  one_sign_lies (sign s0 ∷ clauses ns1 ∷ ps) h = h
  one_sign_lies (sign s0 ∷ display k1 t1 ns1 ∷ ps) h = h
  one_sign_lies (sign s0 ∷ sign s1 ∷ []) h = (tt, tt)
  one_sign_lies (sign s0 ∷ sign s1 ∷ p ∷ ps) h = h
  one_sign_lies (sign s0 ∷ bounds hs1 ss1 ∷ ps) h = h
  one_sign_lies (bounds hs0 ss0 ∷ ps) h = h

  yielded_lies : (ps : List Part) → Lie text A ps → Lie text A (yielded from to ps)
  yielded_lies [] h = (over_lies text k.Yield [] from to (absent from ∷ []) lies (more_lie text (absent from) [] absent_lies (none_lie text)), tt)
  yielded_lies (whole n0 ∷ ps) h = (over_lies text k.Yield [] from to (nodes_of (whole n0 ∷ ps)) lies (nodes_lie text A (whole n0 ∷ ps) h), tt)
  yielded_lies (lacking k0 t0 e0 ns0 ∷ []) h = (over_lies text k0 t0 from to (ns0) lies (h.0.2), tt)
  yielded_lies (lacking k0 t0 e0 ns0 ∷ p ∷ ps) h = (over_lies text k.Yield [] from to (nodes_of (lacking k0 t0 e0 ns0 ∷ p ∷ ps)) lies (nodes_lie text A (lacking k0 t0 e0 ns0 ∷ p ∷ ps) h), tt)
  yielded_lies (call e0 ∷ ps) h = (over_lies text k.Yield [] from to (nodes_of (call e0 ∷ ps)) lies (nodes_lie text A (call e0 ∷ ps) h), tt)
  yielded_lies (more ns0 ∷ ps) h = (over_lies text k.Yield [] from to (nodes_of (more ns0 ∷ ps)) lies (nodes_lie text A (more ns0 ∷ ps) h), tt)
  yielded_lies (clauses ns0 ∷ ps) h = (over_lies text k.Yield [] from to (nodes_of (clauses ns0 ∷ ps)) lies (nodes_lie text A (clauses ns0 ∷ ps) h), tt)
  yielded_lies (display k0 t0 ns0 ∷ ps) h = (over_lies text k.Yield [] from to (nodes_of (display k0 t0 ns0 ∷ ps)) lies (nodes_lie text A (display k0 t0 ns0 ∷ ps) h), tt)
  yielded_lies (sign s0 ∷ ps) h = (over_lies text k.Yield [] from to (nodes_of (sign s0 ∷ ps)) lies (nodes_lie text A (sign s0 ∷ ps) h), tt)
  yielded_lies (bounds hs0 ss0 ∷ ps) h = (over_lies text k.Yield [] from to (nodes_of (bounds hs0 ss0 ∷ ps)) lies (nodes_lie text A (bounds hs0 ss0 ∷ ps) h), tt)

  bounded_lies : (ps : List Part) → Lie text A ps → Lie text A (bounded ps)
  bounded_lies [] h = h
  bounded_lies (whole n0 ∷ ps) h = h
  bounded_lies (lacking k0 t0 e0 ns0 ∷ ps) h = h
  bounded_lies (call e0 ∷ ps) h = h
  bounded_lies (more ns0 ∷ []) h = ((h.0, none_lie text), tt)
  bounded_lies (more ns0 ∷ whole n1 ∷ ps) h = h
  bounded_lies (more ns0 ∷ lacking k1 t1 e1 ns1 ∷ ps) h = h
  bounded_lies (more ns0 ∷ call e1 ∷ ps) h = h
  bounded_lies (more ns0 ∷ more ns1 ∷ []) h = ((h.0, h.1.0), tt)
  bounded_lies (more ns0 ∷ more ns1 ∷ p ∷ ps) h = h
  bounded_lies (more ns0 ∷ clauses ns1 ∷ ps) h = h
  bounded_lies (more ns0 ∷ display k1 t1 ns1 ∷ ps) h = h
  bounded_lies (more ns0 ∷ sign s1 ∷ ps) h = h
  bounded_lies (more ns0 ∷ bounds hs1 ss1 ∷ ps) h = h
  bounded_lies (clauses ns0 ∷ ps) h = h
  bounded_lies (display k0 t0 ns0 ∷ ps) h = h
  bounded_lies (sign s0 ∷ ps) h = h
  bounded_lies (bounds hs0 ss0 ∷ ps) h = h

  or_absent_lie : (ns : List Node) → AllLieIn text ns → AllLieIn text (or_absent from ns)
  or_absent_lie [] h = more_lie text (absent from) [] absent_lies (none_lie text)
  or_absent_lie (n ∷ ns) h = h

  slice_lie : (hs ss : List Node) → AllLieIn text hs → AllLieIn text ss → AllLieIn text (slice_kids from hs ss)
  slice_lie hs ss h g = both_lie text (or_absent from hs) (or_absent from ss) (or_absent_lie hs h) (or_absent_lie ss g)

  slice_lies : (ps : List Part) → Lie text A ps → Lie text A (slice from to ps)
  slice_lies [] h = h
  slice_lies (whole n0 ∷ ps) h = h
  slice_lies (lacking k0 t0 e0 ns0 ∷ ps) h = h
  slice_lies (call e0 ∷ ps) h = h
  slice_lies (more ns0 ∷ ps) h = h
  slice_lies (clauses ns0 ∷ ps) h = h
  slice_lies (display k0 t0 ns0 ∷ ps) h = h
  slice_lies (sign s0 ∷ ps) h = h
  slice_lies (bounds hs0 ss0 ∷ []) h = (over_lies text k.Slice [] from to (absent from ∷ slice_kids from hs0 ss0) lies (more_lie text (absent from) (slice_kids from hs0 ss0) absent_lies (slice_lie hs0 ss0 h.0.0 h.0.1)), tt)
  slice_lies (bounds hs0 ss0 ∷ p ∷ ps) h = h

  sliced_lies : (ps : List Part) → Lie text A ps → Lie text A (sliced from to ps)
  sliced_lies [] h = h
  sliced_lies (whole n0 ∷ []) h = h
  sliced_lies (whole n0 ∷ whole n1 ∷ ps) h = h
  sliced_lies (whole n0 ∷ lacking k1 t1 e1 ns1 ∷ ps) h = h
  sliced_lies (whole n0 ∷ call e1 ∷ ps) h = h
  sliced_lies (whole n0 ∷ more ns1 ∷ ps) h = h
  sliced_lies (whole n0 ∷ clauses ns1 ∷ ps) h = h
  sliced_lies (whole n0 ∷ display k1 t1 ns1 ∷ ps) h = h
  sliced_lies (whole n0 ∷ sign s1 ∷ ps) h = h
  sliced_lies (whole n0 ∷ bounds hs1 ss1 ∷ []) h = (over_lies text k.Slice [] from to (n0 ∷ slice_kids from hs1 ss1) lies (more_lie text n0 (slice_kids from hs1 ss1) h.0 (slice_lie hs1 ss1 h.1.0.0 h.1.0.1)), tt)
  sliced_lies (whole n0 ∷ bounds hs1 ss1 ∷ p ∷ ps) h = h
  sliced_lies (lacking k0 t0 e0 ns0 ∷ ps) h = h
  sliced_lies (call e0 ∷ ps) h = h
  sliced_lies (more ns0 ∷ ps) h = h
  sliced_lies (clauses ns0 ∷ ps) h = h
  sliced_lies (display k0 t0 ns0 ∷ ps) h = h
  sliced_lies (sign s0 ∷ ps) h = h
  sliced_lies (bounds hs0 ss0 ∷ ps) h = h

  parameter_lies : (mark : List ℕ) (ps : List Part) → Lie text A ps → Lie text A (parameter mark from to ps)
  parameter_lies mark [] h = (over_lies text k.Param mark from to (absent from ∷ absent from ∷ absent from ∷ []) lies (more_lie text (absent from) (absent from ∷ absent from ∷ []) absent_lies (more_lie text (absent from) (absent from ∷ []) absent_lies (more_lie text (absent from) [] absent_lies (none_lie text)))), tt)
  parameter_lies mark (whole n0 ∷ []) h = h
  parameter_lies mark (whole n0 ∷ whole n1 ∷ ps) h = h
  parameter_lies mark (whole n0 ∷ lacking k1 t1 e1 ns1 ∷ ps) h = h
  parameter_lies mark (whole n0 ∷ call e1 ∷ ps) h = h
  parameter_lies mark (whole n0 ∷ more ns1 ∷ []) h = h
  parameter_lies mark (whole n0 ∷ more ns1 ∷ whole n2 ∷ ps) h = h
  parameter_lies mark (whole n0 ∷ more ns1 ∷ lacking k2 t2 e2 ns2 ∷ ps) h = h
  parameter_lies mark (whole n0 ∷ more ns1 ∷ call e2 ∷ ps) h = h
  parameter_lies mark (whole n0 ∷ more ns1 ∷ more ns2 ∷ []) h = (over_lies text k.Param mark from to (n0 ∷ slice_kids from ns1 ns2) lies (more_lie text n0 (slice_kids from ns1 ns2) h.0 (slice_lie ns1 ns2 h.1.0 h.1.1.0)), tt)
  parameter_lies mark (whole n0 ∷ more ns1 ∷ more ns2 ∷ p ∷ ps) h = h
  parameter_lies mark (whole n0 ∷ more ns1 ∷ clauses ns2 ∷ ps) h = h
  parameter_lies mark (whole n0 ∷ more ns1 ∷ display k2 t2 ns2 ∷ ps) h = h
  parameter_lies mark (whole n0 ∷ more ns1 ∷ sign s2 ∷ ps) h = h
  parameter_lies mark (whole n0 ∷ more ns1 ∷ bounds hs2 ss2 ∷ ps) h = h
  parameter_lies mark (whole n0 ∷ clauses ns1 ∷ ps) h = h
  parameter_lies mark (whole n0 ∷ display k1 t1 ns1 ∷ ps) h = h
  parameter_lies mark (whole n0 ∷ sign s1 ∷ ps) h = h
  parameter_lies mark (whole n0 ∷ bounds hs1 ss1 ∷ ps) h = h
  parameter_lies mark (lacking k0 t0 e0 ns0 ∷ ps) h = h
  parameter_lies mark (call e0 ∷ ps) h = h
  parameter_lies mark (more ns0 ∷ ps) h = h
  parameter_lies mark (clauses ns0 ∷ ps) h = h
  parameter_lies mark (display k0 t0 ns0 ∷ ps) h = h
  parameter_lies mark (sign s0 ∷ ps) h = h
  parameter_lies mark (bounds hs0 ss0 ∷ ps) h = h

  -- what a builder makes lies in the text
  pub made_lies : (b : Builder) (written : List ℕ) (ps : List Part) → Lie text A ps → Lie text A (made b written from to ps)
  made_lies (Over kind) written ps h = (over_lies text kind [] from to (nodes_of ps) lies (nodes_lie text A ps h), tt)
  made_lies (Signed kind) written ps h = (over_lies text kind written from to (nodes_of ps) lies (nodes_lie text A ps h), tt)
  made_lies (Lacking kind) written ps h = ((after, lies.ends, nodes_lie text A ps h), tt)
  made_lies (SignedLacking kind) written ps h = ((after, lies.ends, nodes_lie text A ps h), tt)
  made_lies Chain written ps h = chain_lies ps h
  made_lies Joint written ps h = joint_lies ps h
  made_lies Further written ps h = (nodes_lie text A ps h, tt)
  made_lies Clauses written ps h = (nodes_lie text A ps h, tt)
  made_lies Grouped written ps h = grouped_lies ps h
  made_lies Listed written ps h = listed_lies k.ListLit (codes "list") ps h
  made_lies ListOf written ps h = list_of_lies ps h
  made_lies Braced written ps h = braced_lies ps h
  made_lies Entry written ps h = entry_lies ps h
  made_lies PairEntry written ps h = displayed_lies k.DictLit (codes "dict") ps h
  made_lies Undecided written ps h = (undecided_lies [] ps (none_lie text) h, tt)
  made_lies Lambda written ps h = (over_lies text k.Lambda [] from to (lambda_kids from ps) lies (lambda_lies ps h), tt)
  made_lies Conditional written ps h = conditional_lies ps h
  made_lies Compared written ps h = compared_lies ps h
  made_lies Joined written ps h = joined_lies ps h
  made_lies Called written ps h = called_lies ps h
  made_lies Sign written ps h = one_sign_lies ps h
  made_lies Yielded written ps h = yielded_lies ps h
  made_lies Bounds written ps h = bounded_lies ps h
  made_lies Slice written ps h = slice_lies ps h
  made_lies Sliced written ps h = sliced_lies ps h
  made_lies Parameter written ps h = parameter_lies [] ps h
  made_lies SignedParameter written ps h = parameter_lies written ps h
