-- The spans of statements lie in each text in which their tokens lie.
use Rattle.std.proofs.Common.{◌≡◌, ℕ, zero, suc, ◌-◌, ◌<◌, ◌≤◌, List, [], ◌∷◌, ◌++◌, length, arith, Bool, true, false, inl, inr, ◌⊎◌}
use Rattle.std.specs.Prelude.{All, max, if◌then◌else◌}
use Rattle.std.specs.Str.{IsUtf8, IsCharBoundary}
use Rattle.std.proofs.lemmas.Str.{IsCharBoundary-start}
use Rattle.std.proofs.lemmas.List.{get_or_past}
use Rattle.std.proofs.lemmas.List.Elements.{All-nil, All-cons, All-head, All-tail}
use Rattle.node_tree.specs.declared.node.Node.{Node}
use Rattle.node_tree.specs.declared.kind.Kind.{Kind}
use Rattle.node_tree.specs.declared.kind.Kind.TheVariants as k
use Rattle.node_tree.specs.Span.{LiesIn}
use Rattle.node_tree.specs.Spans.{SpansLieIn}
use Rattle.node_tree.specs.Tree.{kind_of}
use Rattle.node_tree.proofs.SpanLaws.{AllLieIn, none_lie, more_lie}
use Rattle.grammar.specs.Rule.{Derives, outside}
use Rattle.grammar.proofs.Pieces.{Keeps, spelled_holds}
use Rattle.grammar.proofs.Checked.{is_grammar}
use Rattle.py_expr.specs.declared.item.Item.{Item}
use Rattle.py_expr.specs.Parts.{Part, whole, lacking, call, more, clauses, display, sign, bounds, node, nodes_of, wholes}
use Rattle.py_expr.specs.Build.{token_at, end_item, absent, empty_list}
use Rattle.py_expr.proofs.SpanBuilders.{over_lies, at_place, both_lie, Lie, nodes_lie}
use Rattle.py_expr.proofs.Spans.{ItemsLie, item_lies, After, keeps as known}
use Rattle.py_suite.specs.Table.{Level, Builder, Value_of, Statement, Item_of, Headed, Head, Valued, Several, Listing, Dotting, table, grammar}
use Rattle.py_suite.specs.Build.{is_layout, code_end, end_from, filled, written, arity, absents, padded, told, statement, is_dots, unless_dots, item, valued, several, listing, dotted, dotting, alone, build, source}
use Rattle.py_suite.specs.reader.Sets.{sets, ranks}
use Rattle.py_suite.proofs.Passes.{pass}
use Rattle.py_suite.proofs.Filled.{wide, level_filled}

-- ---- places

either : (i n : ℕ) → (i < n) ⊎ (n ≤ i)
either i n = grind arith

one_of : (text : List ℕ) (c : Bool) (a b : ℕ) → IsCharBoundary text a → IsCharBoundary text b → IsCharBoundary text (if c then a else b)
one_of text true a b h g = h
one_of text false a b h g = g

larger : (text : List ℕ) (a b : ℕ) → IsCharBoundary text a → IsCharBoundary text b → IsCharBoundary text (max a b)
larger text a b h g = elim (either a b) [
  | inl lt ↦ (let right : max a b ≡ b = omega (arith, lt) in rw right g)
  | inr le ↦ (let left : max a b ≡ a = omega (arith, le) in rw left h)
]

module _ (text : List ℕ) (to : ℕ) (ts : List Item) (utf8 : IsUtf8 text) (lie : ItemsLie text 0 ts to) where
  begins : (i : ℕ) → IsCharBoundary text (token_at ts i).span.from
  begins i = elim (either i (length ts)) [
    | inl lt ↦ (item_lies text 0 to ts i lie lt).1.begins
    | inr le ↦ rw (get_or_past ts i end_item le) (IsCharBoundary-start text utf8)
  ]

  ends : (j : ℕ) → j ≤ length ts → IsCharBoundary text (code_end ts j)
  unfolding code_end
  ends zero le = IsCharBoundary-start text utf8
  ends (suc n) le = one_of text (is_layout (token_at ts n).word) (code_end ts n) (token_at ts n).span.to (ends n (omega (arith, le))) (item_lies text 0 to ts n lie (omega (arith, le))).1.ends

  pub stands : (i j : ℕ) → j ≤ length ts → LiesIn text (record { from = (token_at ts i).span.from; to = end_from ts i j })
  stands i j le = record {
    ordered = omega arith;
    begins = begins i;
    ends = larger text (token_at ts i).span.from (code_end ts j) (begins i) (ends j le);
  }

-- ---- kids

module _ (text : List ℕ) (from : ℕ) (b : IsCharBoundary text from) where
  absent_lies : SpansLieIn text (absent from)
  absent_lies = over_lies text k.Absent [] from from [] (at_place text from b) (none_lie text)

  empty_lies : SpansLieIn text (empty_list from)
  empty_lies = over_lies text k.List [] from from [] (at_place text from b) (none_lie text)

  absents_lie : (n : ℕ) → AllLieIn text (absents from n)
  absents_lie zero = none_lie text
  absents_lie (suc n) = more_lie text (absent from) (absents from n) absent_lies (absents_lie n)

  padded_lies : (kind : Kind) (ns : List Node) → AllLieIn text ns → AllLieIn text (padded kind from ns)
  padded_lies kind ns h = both_lie text ns (absents from (arity kind - length ns)) h (absents_lie (arity kind - length ns))

  module _ (A : ℕ → Type 0) where
    filled_lie : (ps : List Part) → Lie text A ps → AllLieIn text (filled from ps)
    filled_lie [] h = none_lie text
    filled_lie (whole n ∷ ps) h = more_lie text n (filled from ps) h.0 (filled_lie ps h.1)
    filled_lie (lacking kind written' to ns ∷ ps) h = more_lie text (node kind written' to to ns) (filled from ps) (over_lies text kind written' to to ns (at_place text to h.0.1) h.0.2) (filled_lie ps h.1)
    filled_lie (call to ∷ ps) h = filled_lie ps h.1
    filled_lie (more [] ∷ ps) h = more_lie text (absent from) (filled from ps) absent_lies (filled_lie ps h.1)
    filled_lie (more (n ∷ ns) ∷ ps) h = both_lie text ((n ∷ ns) ++ []) (filled from ps) (nodes_lie text A (more (n ∷ ns) ∷ []) (h.0, tt)) (filled_lie ps h.1)
    filled_lie (clauses [] ∷ ps) h = more_lie text (empty_list from) (filled from ps) empty_lies (filled_lie ps h.1)
    filled_lie (clauses (n ∷ ns) ∷ ps) h = both_lie text ((n ∷ ns) ++ []) (filled from ps) (nodes_lie text A (clauses (n ∷ ns) ∷ []) (h.0, tt)) (filled_lie ps h.1)
    filled_lie (display kind written' ns ∷ ps) h = both_lie text (ns ++ []) (filled from ps) (nodes_lie text A (display kind written' ns ∷ []) (h.0, tt)) (filled_lie ps h.1)
    filled_lie (sign s ∷ ps) h = filled_lie ps h.1
    filled_lie (bounds hs ss ∷ ps) h = both_lie text (hs ++ (ss ++ [])) (filled from ps) (nodes_lie text A (bounds hs ss ∷ []) (h.0, tt)) (filled_lie ps h.1)

    -- ---- what builders make

    module _ (to : ℕ) (inside : LiesIn text (record { from = from; to = to })) where
      statement_lies : (kind : Kind) (ps : List Part) → Lie text A ps → Lie text A (statement kind from to ps)
      statement_lies kind ps h = (over_lies text kind (written ps) from to (padded kind from (filled from ps)) inside (padded_lies kind (filled from ps) (filled_lie ps h)), tt)

      either_lies : (c : Bool) (m n : Node) → SpansLieIn text m → SpansLieIn text n → SpansLieIn text (if c then m else n)
      either_lies true m n h g = h
      either_lies false m n h g = g

      unless_lies : (alone : Bool) (m n : Node) → SpansLieIn text m → SpansLieIn text n → SpansLieIn text (unless_dots alone m n)
      unless_lies true m n h g = either_lies (is_dots (kind_of m)) m n h g
      unless_lies false m n h g = g

      item_part_lies : (kind : Kind) (alone : Bool) (ps : List Part) → Lie text A ps → Lie text A (item kind alone from to ps)
      item_part_lies kind alone [] h = statement_lies kind [] h
      item_part_lies kind alone (whole n ∷ []) h =
          let over : SpansLieIn text (node kind [] from to (padded kind from (n ∷ []))) = over_lies text kind [] from to (padded kind from (n ∷ [])) inside (padded_lies kind (n ∷ []) (nodes_lie text A (whole n ∷ []) h)) in
          (unless_lies alone n (node kind [] from to (padded kind from (n ∷ []))) h.0 over, tt)
      item_part_lies kind alone (whole n ∷ p ∷ ps) h = statement_lies kind (whole n ∷ p ∷ ps) h
      item_part_lies kind alone (lacking k0 t0 e0 ns ∷ ps) h = statement_lies kind (lacking k0 t0 e0 ns ∷ ps) h
      item_part_lies kind alone (call e0 ∷ ps) h = statement_lies kind (call e0 ∷ ps) h
      item_part_lies kind alone (more ns ∷ ps) h = statement_lies kind (more ns ∷ ps) h
      item_part_lies kind alone (clauses ns ∷ ps) h = statement_lies kind (clauses ns ∷ ps) h
      item_part_lies kind alone (display k0 t0 ns ∷ ps) h = statement_lies kind (display k0 t0 ns ∷ ps) h
      item_part_lies kind alone (sign s ∷ ps) h = statement_lies kind (sign s ∷ ps) h
      item_part_lies kind alone (bounds hs ss ∷ ps) h = statement_lies kind (bounds hs ss ∷ ps) h

      valued_lies : (alone : Bool) (ps : List Part) → Lie text A ps → Lie text A (valued alone from to ps)
      valued_lies alone [] h = item_part_lies k.ExprStmt alone [] h
      valued_lies alone (whole n ∷ []) h = item_part_lies k.ExprStmt alone (whole n ∷ []) h
      valued_lies alone (whole n ∷ whole m ∷ ps) h = item_part_lies k.ExprStmt alone (whole n ∷ whole m ∷ ps) h
      valued_lies alone (whole n ∷ lacking k0 t0 e0 ns ∷ []) h = (over_lies text k0 t0 from to (n ∷ ns) inside (more_lie text n ns h.0 h.1.0.2), tt)
      valued_lies alone (whole n ∷ lacking k0 t0 e0 ns ∷ p ∷ ps) h = item_part_lies k.ExprStmt alone (whole n ∷ lacking k0 t0 e0 ns ∷ p ∷ ps) h
      valued_lies alone (whole n ∷ call e0 ∷ ps) h = item_part_lies k.ExprStmt alone (whole n ∷ call e0 ∷ ps) h
      valued_lies alone (whole n ∷ more ns ∷ []) h = (over_lies text k.Assign [] from to (n ∷ ns) inside (more_lie text n ns h.0 h.1.0), tt)
      valued_lies alone (whole n ∷ more ns ∷ p ∷ ps) h = item_part_lies k.ExprStmt alone (whole n ∷ more ns ∷ p ∷ ps) h
      valued_lies alone (whole n ∷ clauses ns ∷ ps) h = item_part_lies k.ExprStmt alone (whole n ∷ clauses ns ∷ ps) h
      valued_lies alone (whole n ∷ display k0 t0 ns ∷ ps) h = item_part_lies k.ExprStmt alone (whole n ∷ display k0 t0 ns ∷ ps) h
      valued_lies alone (whole n ∷ sign s ∷ ps) h = item_part_lies k.ExprStmt alone (whole n ∷ sign s ∷ ps) h
      valued_lies alone (whole n ∷ bounds hs ss ∷ ps) h = item_part_lies k.ExprStmt alone (whole n ∷ bounds hs ss ∷ ps) h
      valued_lies alone (lacking k0 t0 e0 ns ∷ ps) h = item_part_lies k.ExprStmt alone (lacking k0 t0 e0 ns ∷ ps) h
      valued_lies alone (call e0 ∷ ps) h = item_part_lies k.ExprStmt alone (call e0 ∷ ps) h
      valued_lies alone (more ns ∷ ps) h = item_part_lies k.ExprStmt alone (more ns ∷ ps) h
      valued_lies alone (clauses ns ∷ ps) h = item_part_lies k.ExprStmt alone (clauses ns ∷ ps) h
      valued_lies alone (display k0 t0 ns ∷ ps) h = item_part_lies k.ExprStmt alone (display k0 t0 ns ∷ ps) h
      valued_lies alone (sign s ∷ ps) h = item_part_lies k.ExprStmt alone (sign s ∷ ps) h
      valued_lies alone (bounds hs ss ∷ ps) h = item_part_lies k.ExprStmt alone (bounds hs ss ∷ ps) h

      several_lies : (ps : List Part) → Lie text A ps → Lie text A (several from to ps)
      several_lies [] h = (none_lie text, tt)
      several_lies (p ∷ ps) h = (over_lies text k.List [] from to (nodes_of (p ∷ ps)) inside (nodes_lie text A (p ∷ ps) h), tt)

      listing_lies : (ps : List Part) → Lie text A ps → Lie text A (listing ps)
      listing_lies [] h = (none_lie text, tt)
      listing_lies (p ∷ ps) h = h

      dotting_lies : (ps : List Part) → Lie text A ps → Lie text A (dotting from to ps)
      dotting_lies ps h = (over_lies text k.Id (dotted ps) from to (nodes_of ps) inside (nodes_lie text A ps h), tt)

-- ---- pieces

module _ (text : List ℕ) (to : ℕ) (ts : List Item) (utf8 : IsUtf8 text) (lie : ItemsLie text 0 ts to) where
  built_lies : (b : Builder) (i j : ℕ) (ps : List Part) → i ≤ j → (wide b ≡ true → i < j) → j ≤ length ts → Lie text (After ts i) ps → Lie text (After ts i) (build ts b i j ps)
  built_lies (Value_of b) i j ps le lt le' h = (known text to ts lie).built b i j ps le lt le' h
  built_lies (Statement kind) i j ps le lt le' h = statement_lies text (token_at ts i).span.from (begins text to ts utf8 lie i) (After ts i) (end_from ts i j) (stands text to ts utf8 lie i j le') kind ps h
  built_lies (Item_of kind) i j ps le lt le' h = item_part_lies text (token_at ts i).span.from (begins text to ts utf8 lie i) (After ts i) (end_from ts i j) (stands text to ts utf8 lie i j le') kind (alone i j) ps h
  built_lies Headed i j ps le lt le' h = statement_lies text (token_at ts i).span.from (begins text to ts utf8 lie i) (After ts i) (end_from ts i j) (stands text to ts utf8 lie i j le') (told ps) ps h
  built_lies (Head kind) i j ps le lt le' h = (nodes_lie text (After ts i) ps h, tt)
  built_lies Valued i j ps le lt le' h = valued_lies text (token_at ts i).span.from (begins text to ts utf8 lie i) (After ts i) (end_from ts i j) (stands text to ts utf8 lie i j le') (alone i j) ps h
  built_lies Several i j ps le lt le' h = several_lies text (token_at ts i).span.from (begins text to ts utf8 lie i) (After ts i) (end_from ts i j) (stands text to ts utf8 lie i j le') ps h
  built_lies Listing i j ps le lt le' h = listing_lies text (token_at ts i).span.from (begins text to ts utf8 lie i) (After ts i) (end_from ts i j) (stands text to ts utf8 lie i j le') ps h
  built_lies Dotting i j ps le lt le' h = dotting_lies text (token_at ts i).span.from (begins text to ts utf8 lie i) (After ts i) (end_from ts i j) (stands text to ts utf8 lie i j le') ps h

  kept : Keeps (source ts) wide (length ts) (λ i j. Lie text (After ts i))
  kept = record {
    nothing = (known text to ts lie).nothing;
    leaf = (known text to ts lie).leaf;
    joined = (known text to ts lie).joined;
    bracketed = (known text to ts lie).bracketed;
    built = λ b i j ps le lt le' h. built_lies b i j ps le lt le' h;
  }

  each_lies : (A : ℕ → Type 0) (ns : List Node) → Lie text A (wholes ns) → All (SpansLieIn text) ns
  each_lies A [] h = All-nil (SpansLieIn text)
  each_lies A (n ∷ ns) h = All-cons (SpansLieIn text) n ns h.0 (each_lies A ns h.1)

  -- nodes that items spell lie in the text, where the items do
  pub spelled_lie : (l : Level) (ns : List Node) (j : ℕ) → Derives (source ts) table outside (table l) (wholes ns) 0 j → j ≤ length ts → All (SpansLieIn text) ns
  spelled_lie l ns j d le = each_lies (After ts 0) ns (spelled_holds (source ts) table sets (is_grammar grammar sets ranks pass) wide level_filled (length ts) (λ i j. Lie text (After ts i)) kept l (wholes ns) 0 j d le)

-- some nodes lie in the text where each does
pub all_lie : (text : List ℕ) (ns : List Node) → All (SpansLieIn text) ns → AllLieIn text ns
all_lie text [] h = none_lie text
all_lie text (n ∷ ns) h = more_lie text n ns (All-head (SpansLieIn text) n ns h) (all_lie text ns (All-tail (SpansLieIn text) n ns h))
