-- The spans of an expression's tree lie in each text in which its tokens lie.
use Rattle.std.proofs.Common.{◌≡◌, ℕ, zero, suc, ◌-◌, ◌<◌, ◌≤◌, List, [], ◌∷◌, length, get_or, refl, arith, Bool, true, false, cond, inl, inr}
use Rattle.std.specs.Prelude.{None}
use Rattle.std.specs.Str.{IsCharBoundary}
use Rattle.node_tree.specs.declared.node.Node.{Node}
use Rattle.node_tree.specs.declared.kind.Kind.{Kind}
use Rattle.node_tree.specs.declared.kind.Kind.TheVariants as k
use Rattle.node_tree.specs.declared.view.Mode.{Mode}
use Rattle.node_tree.specs.declared.span.Span.{Span}
use Rattle.node_tree.specs.Span.{LiesIn}
use Rattle.node_tree.specs.Spans.{SpansLieIn}
use Rattle.node_tree.specs.Tree.{span_of}
use Rattle.node_tree.proofs.Nodes.{made_span}
use Rattle.node_tree.proofs.SpanLaws.{AllLieIn, none_lie, more_lie}
use Rattle.grammar.specs.Rule.{Derives, outside}
use Rattle.grammar.proofs.Pieces.{filled, Keeps, spelled_holds}
use Rattle.grammar.proofs.Checked.{is_grammar}
use Rattle.py_lex.specs.declared.token.PyToken.{PyToken, out-PyToken}
use Rattle.py_lex.specs.declared.token.PyWord.{PyWord}
use Rattle.py_lex.specs.declared.token.PyWord.TheVariants as lexed
use Rattle.py_lex.specs.declared.token.FPart.{FPart, out-FPart}
use Rattle.py_lex.specs.declared.token.FPart.TheOpen.{Plain, Field}
use Rattle.py_lex.specs.Places.{Lies, TokensLie, PartsLie, InsideLies, AreTokensIn}
use Rattle.py_expr.specs.declared.item.Item.{Item}
use Rattle.py_expr.specs.declared.level.PyLevel.{PyLevel}
use Rattle.py_expr.specs.Items.{Insides, IsItemBy, AreItems}
use Rattle.py_expr.specs.Insides.{IsValue, HasNodes, AreParts, is_equal, without_equal, field_node, format_list}
use Rattle.py_expr.specs.Parts.{Part, whole, node}
use Rattle.py_expr.specs.Table.{Leaf, Own, Ident, Operator, Builder, Further, table, grammar}
use Rattle.py_expr.specs.Table as levels
use Rattle.py_expr.specs.Build.{token_at, end_of, kind_of, ident_kind, shown, leaf, leaf_of, source}
use Rattle.py_expr.specs.reader.Sets.{sets, ranks}
use Rattle.py_expr.specs.Runs.{IsTree, level_at}
use Rattle.py_expr.proofs.Passes.{pass}
use Rattle.py_expr.proofs.SpanBuilders.{over_lies, span_lies, at_place, Lie, joined_lie, less_lie, nodes_lie, made_lies}

-- ---- items

-- items lie in the text, one behind the other, and so do the nodes inside them
abbrev pub ItemsLie : List ℕ → ℕ → List Item → ℕ → Type 0
ItemsLie text from [] to = from ≤ to
ItemsLie text from (t ∷ ts) to = (from ≤ t.span.from) × LiesIn text t.span × AllLieIn text t.inside × ItemsLie text t.span.to ts to

pub item_lies : (text : List ℕ) (from to : ℕ) (ts : List Item) (n : ℕ) → ItemsLie text from ts to → n < length ts → (from ≤ (token_at ts n).span.from) × LiesIn text (token_at ts n).span × AllLieIn text (token_at ts n).inside
item_lies text from to [] n h lt = absurd (omega arith)
item_lies text from to (t ∷ ts) zero h lt = (h.0, h.1, h.2)
item_lies text from to (t ∷ ts) (suc n) h lt = let r = item_lies text t.span.to to ts n h.3 (omega arith) in (omega (arith, h.0, h.1.ordered, r.0), r.1, r.2)

in_order : (text : List ℕ) (from to : ℕ) (ts : List Item) (i j : ℕ) → ItemsLie text from ts to → i ≤ j → j < length ts → (token_at ts i).span.from ≤ (token_at ts j).span.to
in_order text from to [] i j h le lt = absurd (omega arith)
in_order text from to (t ∷ ts) zero zero h le lt = h.1.ordered
in_order text from to (t ∷ ts) zero (suc j) h le lt = let r = item_lies text t.span.to to ts j h.3 (omega arith) in omega (arith, h.1.ordered, r.0, r.1.ordered)
in_order text from to (t ∷ ts) (suc i) zero h le lt = absurd (omega arith)
in_order text from to (t ∷ ts) (suc i) (suc j) h le lt = in_order text t.span.to to ts i j h.3 (omega arith) (omega arith)

-- behind where each item up to a place begins
abbrev pub After : List Item → ℕ → ℕ → Type 0
After ts i to = (h : ℕ) → h ≤ i → h < length ts → (token_at ts h).span.from ≤ to

-- all builders but this stand over a token at least
abbrev pub wide : Builder → Bool
wide Further = false
wide b = true

module _ (text : List ℕ) (to : ℕ) (ts : List Item) (lie : ItemsLie text 0 ts to) where
  piece_lies : (i j : ℕ) → i < j → j ≤ length ts → LiesIn text (record { from = (token_at ts i).span.from; to = end_of ts j })
  piece_lies i j lt le = record {
    ordered = in_order text 0 to ts i (j - 1) lie (omega arith) (omega arith);
    begins = (item_lies text 0 to ts i lie (omega arith)).1.begins;
    ends = (item_lies text 0 to ts (j - 1) lie (omega arith)).1.ends;
  }

  grown : (i k : ℕ) → i ≤ k → (ps : List Part) → Lie text (After ts k) ps → Lie text (After ts i) ps
  grown i k le ps h = less_lie text (After ts k) (After ts i) ps (λ e a n at lt. a n (omega (arith, at, le)) lt) h

  leaf_lies : (kind : Kind) (i : ℕ) → i < length ts → SpansLieIn text (leaf_of kind (token_at ts i))
  leaf_lies kind i lt =
      let t : Item = token_at ts i in
      let r = item_lies text 0 to ts i lie lt in
      over_lies text kind (shown t.word t.text) t.span.from t.span.to t.inside r.1 r.2

  part_lies : (l : Leaf) (i : ℕ) → i < length ts → Lie text (After ts i) (leaf l (token_at ts i) ∷ [])
  part_lies Own i lt = (leaf_lies (kind_of (token_at ts i).word) i lt, tt)
  part_lies Ident i lt = (leaf_lies (ident_kind (token_at ts i).word) i lt, tt)
  part_lies Operator i lt = (tt, tt)

  over_piece : (b : Builder) (i j : ℕ) (ps : List Part) → i < j → j ≤ length ts → Lie text (After ts i) ps → Lie text (After ts i) ((source ts).build b i j ps)
  over_piece b i j ps lt le h =
      made_lies text (After ts i) (token_at ts i).span.from (end_of ts j) (piece_lies i j lt le) (λ e a. a i (omega arith) (omega (arith, lt, le)))
      (λ n at within. in_order text 0 to ts n (j - 1) lie (omega (arith, at, lt)) (omega (arith, lt, le))) b (token_at ts i).text ps h

  built_lies : (b : Builder) (i j : ℕ) (ps : List Part) → (wide b ≡ true → i < j) → j ≤ length ts → Lie text (After ts i) ps → Lie text (After ts i) ((source ts).build b i j ps)
  built_lies Further i j ps lt le h = (nodes_lie text (After ts i) ps h, tt)
  built_lies b i j ps lt le h = over_piece b i j ps (lt refl) le h

  pub keeps : Keeps (source ts) wide (length ts) (λ i j. Lie text (After ts i))
  keeps = record {
    nothing = λ i j le le'. tt;
    leaf = λ l i lt. part_lies l i lt;
    joined = λ i k j ys zs le le' le'' h g. joined_lie text (After ts i) ys zs h (grown i k le zs g);
    bracketed = λ i j ps lt lt' h. grown i (suc i) (omega arith) ps h;
    built = λ b i j ps le lt le' h. built_lies b i j ps lt le' h;
  }

-- each node is made of what takes a token, but for what comes behind a first item
level_filled : (l : levels.Level) → filled sets wide None (table l) ≡ true
level_filled levels.Exprs = refl
level_filled levels.Star = refl
level_filled levels.Named = refl
level_filled levels.Test = refl
level_filled levels.LambdaTest = refl
level_filled levels.Or = refl
level_filled levels.OrTail = refl
level_filled levels.And = refl
level_filled levels.AndTail = refl
level_filled levels.Not = refl
level_filled levels.Cmp = refl
level_filled levels.CmpTail = refl
level_filled levels.Cop = refl
level_filled levels.Bor = refl
level_filled levels.BorTail = refl
level_filled levels.Xor = refl
level_filled levels.XorTail = refl
level_filled levels.Band = refl
level_filled levels.BandTail = refl
level_filled levels.Shift = refl
level_filled levels.ShiftTail = refl
level_filled levels.Sum = refl
level_filled levels.SumTail = refl
level_filled levels.Term = refl
level_filled levels.TermTail = refl
level_filled levels.Unary = refl
level_filled levels.Power = refl
level_filled levels.Await = refl
level_filled levels.Prim = refl
level_filled levels.PrimTail = refl
level_filled levels.Suffix = refl
level_filled levels.Attr = refl
level_filled levels.Call = refl
level_filled levels.Sub = refl
level_filled levels.Atom = refl
level_filled levels.Strings = refl
level_filled levels.MoreStrings = refl
level_filled levels.StringsTail = refl
level_filled levels.Paren = refl
level_filled levels.Inner = refl
level_filled levels.Items = refl
level_filled levels.ListLit = refl
level_filled levels.Braces = refl
level_filled levels.FirstEntry = refl
level_filled levels.FirstValue = refl
level_filled levels.LaterEntry = refl
level_filled levels.LaterValue = refl
level_filled levels.Dotted = refl
level_filled levels.DottedTail = refl
level_filled levels.DotsLeaf = refl
level_filled levels.Pairs = refl
level_filled levels.DottedPairs = refl
level_filled levels.PairsTail = refl
level_filled levels.Pair = refl
level_filled levels.AfterPair = refl
level_filled levels.AfterFirstPair = refl
level_filled levels.Deep = refl
level_filled levels.Comprehension = refl
level_filled levels.ClausesTail = refl
level_filled levels.Clause = refl
level_filled levels.ForClause = refl
level_filled levels.Yield = refl
level_filled levels.Targs = refl
level_filled levels.Target = refl
level_filled levels.Index = refl
level_filled levels.Piece = refl
level_filled levels.SliceEnd = refl
level_filled levels.Bound = refl
level_filled levels.Args = refl
level_filled levels.FirstArg = refl
level_filled levels.Arg = refl
level_filled levels.PlainArg = refl
level_filled levels.Params = refl
level_filled levels.Param = refl
level_filled levels.Given = refl
level_filled levels.LambdaParams = refl
level_filled levels.LambdaParam = refl
level_filled levels.LambdaGiven = refl
level_filled levels.AfterStar = refl
level_filled levels.Stars = refl
level_filled levels.StarsTail = refl
level_filled levels.AfterItem = refl
level_filled levels.AfterTarget = refl
level_filled levels.Targets = refl
level_filled levels.TargetsTail = refl
level_filled levels.AfterPiece = refl
level_filled levels.Pieces = refl
level_filled levels.PiecesTail = refl
level_filled levels.AfterArg = refl
level_filled levels.AfterFirstArg = refl
level_filled levels.MoreArgs = refl
level_filled levels.MoreArgsTail = refl
level_filled levels.AfterParam = refl
level_filled levels.MoreParams = refl
level_filled levels.MoreParamsTail = refl
level_filled levels.AfterLambdaParam = refl
level_filled levels.MoreLambdaParams = refl
level_filled levels.MoreLambdaParamsTail = refl

-- a node that items spell lies in the text, where the items do
spelled_lies : (text : List ℕ) (to : ℕ) (ts : List Item) (l : levels.Level) (n : Node) (i j : ℕ) → ItemsLie text 0 ts to → Derives (source ts) table outside (table l) (whole n ∷ []) i j → j ≤ length ts → SpansLieIn text n
spelled_lies text to ts l n i j lie d le = (spelled_holds (source ts) table sets (is_grammar grammar sets ranks pass) wide level_filled (length ts) (λ i j. Lie text (After ts i)) (keeps text to ts lie) l (whole n ∷ []) i j d le).0

-- ---- nodes in a row

-- nodes lie in the text, one behind the other
abbrev NodesLie : List ℕ → ℕ → List Node → ℕ → Type 0
NodesLie text from [] to = from ≤ to
NodesLie text from (n ∷ ns) to = (from ≤ (span_of n).from) × SpansLieIn text n × NodesLie text (span_of n).to ns to

row_lies : (text : List ℕ) (from to : ℕ) (ns : List Node) → NodesLie text from ns to → AllLieIn text ns
row_lies text from to [] h = none_lie text
row_lies text from to (n ∷ ns) h = more_lie text n ns h.1 (row_lies text (span_of n).to to ns h.2)

-- where the last of them ends
row_ends : (text : List ℕ) (n : Node) (ns : List Node) (to : ℕ) (d : Node) → SpansLieIn text n → NodesLie text (span_of n).to ns to → ((span_of n).to ≤ (span_of (get_or (n ∷ ns) (length ns) d)).to) × IsCharBoundary text (span_of (get_or (n ∷ ns) (length ns) d)).to
row_ends text n [] to d h g = (omega arith, (span_lies text n h).ends)
row_ends text n (m ∷ ms) to d h g =
    let r = row_ends text m ms to d g.1 g.2 in
    (omega (arith, g.0, (span_lies text m g.1).ordered, r.0), r.1)

format_lies : (text : List ℕ) (from to : ℕ) (ns : List Node) → IsCharBoundary text from → NodesLie text from ns to → SpansLieIn text (format_list from ns)
format_lies text from to [] b h = over_lies text k.List [] from from [] (at_place text from b) (none_lie text)
format_lies text from to (n ∷ ns) b h =
    let inside : LiesIn text (span_of n) = span_lies text n h.1 in
    let r = row_ends text n ns to n h.1 h.2 in
    over_lies text k.List [] (span_of n).from (span_of (get_or (n ∷ ns) (length ns) n)).to (n ∷ ns) (record { ordered = omega (arith, inside.ordered, r.0); begins = inside.begins; ends = r.1 }) (row_lies text from to (n ∷ ns) h)

-- a node that lies in the text at its place
put : (text : List ℕ) (from : ℕ) (n m : Node) (ns : List Node) (span : Span) (to : ℕ) → n ≡ m → span_of m ≡ span → from ≤ span.from → SpansLieIn text m → NodesLie text span.to ns to → NodesLie text from (n ∷ ns) to
put text from n m ns span to e s le h g = rw (e, s) (le, h, g)

-- ---- items and what is inside them

-- by what is said of the parts
module _ (text : List ℕ) (mode : Mode) (L : Lies FPart) (I : Insides) (inside : (ps : List FPart) (ns : List Node) (from to : ℕ) → L from ps to → I ps ns → NodesLie text from ns to) where
  item_is : (word : PyWord) (t : PyToken) (after : List PyToken) (i : Item) (from to : ℕ) → L from (out-PyToken t).parts to → IsItemBy word I mode t after i → (i.span ≡ (out-PyToken t).span) × AllLieIn text i.inside
  item_is lexed.FStr t after i from to l (inl h) = rw h.2 (refl, row_lies text from to h.0 (inside (out-PyToken t).parts h.0 from to l h.1))
  item_is lexed.FStr t after i from to l (inr h) = rw h.1 (refl, none_lie text)
  item_is lexed.Name t after i from to l h = rw h (refl, none_lie text)
  item_is lexed.Keyword t after i from to l h = rw h (refl, none_lie text)
  item_is lexed.Number t after i from to l h = rw h (refl, none_lie text)
  item_is lexed.Str t after i from to l h = rw h (refl, none_lie text)
  item_is lexed.Op t after i from to l h = rw h (refl, none_lie text)
  item_is lexed.Meta t after i from to l h = rw h (refl, none_lie text)
  item_is lexed.MetaDots t after i from to l h = rw h (refl, none_lie text)
  item_is lexed.Newline t after i from to l h = rw h (refl, none_lie text)
  item_is lexed.Indent t after i from to l h = rw h (refl, none_lie text)
  item_is lexed.Dedent t after i from to l h = rw h (refl, none_lie text)
  item_is lexed.End t after i from to l h = rw h (refl, none_lie text)

  items_lie : (ts : List PyToken) (is : List Item) (from to : ℕ) → TokensLie L text from ts to → AreItems I mode ts is → ItemsLie text from is to
  items_lie [] is from to h a = rw a h
  items_lie (t ∷ ts) is from to h (i, more, is_item, are, e) =
      let r : (i.span ≡ (out-PyToken t).span) × AllLieIn text i.inside = item_is (out-PyToken t).word t ts i (out-PyToken t).span.from (out-PyToken t).span.to h.2 is_item in
      rw (e, r.0) (h.0, h.1, r.1, items_lie ts more (out-PyToken t).span.to to h.3 are)

  -- tokens without the `=` behind them
  kept_or_not : (c : Bool) (t : PyToken) (from to : ℕ) → TokensLie L text from (t ∷ []) to → TokensLie L text from (cond c [] (t ∷ [])) to
  kept_or_not true t from to h = omega (arith, h.0, h.1.ordered, h.3)
  kept_or_not false t from to h = h

  value_tokens : (ts : List PyToken) (from to : ℕ) → TokensLie L text from ts to → TokensLie L text from (without_equal ts) to
  value_tokens [] from to h = h
  value_tokens (t ∷ []) from to h = kept_or_not (is_equal t) t from to h
  value_tokens (t ∷ u ∷ ts) from to h = (h.0, h.1, h.2, value_tokens (u ∷ ts) (out-PyToken t).span.to to h.3)

  from_start : (is : List Item) (from to : ℕ) → ItemsLie text from is to → ItemsLie text 0 is to
  from_start [] from to h = omega arith
  from_start (i ∷ is) from to h = (omega arith, h.1, h.2, h.3)

  value_lies : (ts : List PyToken) (n : Node) (from to : ℕ) → TokensLie L text from ts to → IsValue I mode ts n → SpansLieIn text n
  value_lies ts n from to h v =
      spelled_lies text to v.items levels.Exprs n 0 (length v.items) (from_start v.items from to (items_lie (without_equal ts) v.items from to (value_tokens ts from to h) v.are)) v.reads.spelled (omega arith)

  field_lies : (span : Span) (conversion : List ℕ) (ts : List PyToken) (format : List FPart) (value : Node) (nodes : List Node) → LiesIn text span → TokensLie L text span.from ts span.to → L span.from format span.to → IsValue I mode ts value → I format nodes → SpansLieIn text (field_node span conversion value nodes)
  field_lies span conversion ts format value nodes lies tokens parts v f =
      over_lies text k.FField conversion span.from span.to (value ∷ format_list span.from nodes ∷ []) lies
      (more_lie text value (format_list span.from nodes ∷ []) (value_lies ts value span.from span.to tokens v)
      (more_lie text (format_list span.from nodes) [] (format_lies text span.from span.to nodes lies.begins (inside format nodes span.from span.to parts f)) (none_lie text)))

  parts_row : (ps : List FPart) (ns : List Node) (from to : ℕ) → PartsLie (TokensLie L text) L text from ps to → AreParts I mode ps ns → NodesLie text from ns to
  parts_row [] ns from to h a = rw a h
  parts_row (p ∷ ps) ns from to h (n, more, is_part, are, e) =
      let go : (NodesLie text from (n ∷ more) to) = (elim (out-FPart p) as (λ o.
      (elim o as (λ x. Type 0) [
        | Plain written span ↦ (from ≤ span.from) × LiesIn text span × PartsLie (TokensLie L text) L text span.to ps to
        | Field ts conversion format span ↦ (from ≤ span.from) × LiesIn text span × TokensLie L text span.from ts span.to × L span.from format span.to × PartsLie (TokensLie L text) L text span.to ps to
      ])
      → (elim o as (λ x. Type 0) [
        | Plain written span ↦ n ≡ node k.FText written span.from span.to []
        | Field ts conversion format span ↦ (value : Node) × (nodes : List Node) × IsValue I mode ts value × I format nodes × (n ≡ field_node span conversion value nodes)
      ])
      → NodesLie text from (n ∷ more) to) [
        | Plain written span ↦ λ l q. put text from n (node k.FText written span.from span.to []) more span to q (made_span k.FText written [] span) l.0 (over_lies text k.FText written span.from span.to [] l.1 (none_lie text)) (parts_row ps more span.to to l.2 are)
        | Field ts conversion format span ↦ λ l q. put text from n (field_node span conversion q.0 q.1) more span to q.4 (made_span k.FField conversion (q.0 ∷ format_list span.from q.1 ∷ []) span) l.0 (field_lies span conversion ts format q.0 q.1 l.1 l.2 l.3 q.2 q.3) (parts_row ps more span.to to l.4 are)
      ]) h is_part in
      rw e go

-- so many f-strings within one another
inside_lies : (levels : ℕ) (mode : Mode) (text : List ℕ) (ps : List FPart) (ns : List Node) (from to : ℕ) → InsideLies levels text from ps to → HasNodes levels mode ps ns → NodesLie text from ns to
inside_lies zero mode text ps ns from to h a = absurd a
inside_lies (suc levels) mode text ps ns from to h a = parts_row text mode (InsideLies levels text) (HasNodes levels mode) (λ qs ms from to. inside_lies levels mode text qs ms from to) ps ns from to h a

-- The items of tokens lie in the text in which the tokens lie.
pub text_items_lie : (mode : Mode) (ts : List PyToken) (is : List Item) (text : List ℕ) → AreTokensIn text ts → AreItems (HasNodes 500 mode) mode ts is → ItemsLie text 0 is (length text)
text_items_lie mode ts is text h are = items_lie text mode (InsideLies 500 text) (HasNodes 500 mode) (λ qs ms from to. inside_lies 500 mode text qs ms from to) ts is 0 (length text) (h 500) are

-- The spans of a run's tree lie in the text in which the tokens lie.
pub tree_lies : (mode : Mode) (ts : List PyToken) (l : PyLevel) (from : ℕ) (n : Node) (to : ℕ) (text : List ℕ) → AreTokensIn text ts → IsTree mode ts l from n to → SpansLieIn text n
tree_lies mode ts l from n to text h r =
    spelled_lies text (length text) r.items (level_at l) n from to (text_items_lie mode ts r.items text h r.are) r.reads.run.piece.spelled r.reads.within
