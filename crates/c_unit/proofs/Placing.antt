-- The spans of what a text is lie in it.
use Rattle.std.proofs.Common.{◌≡◌, ℕ, ◌<◌, ◌≤◌, List, [], ◌∷◌, length, map, refl, sym, ◌∙◌, subst, arith, Bool, true, false, cond}
use Rattle.std.specs.Prelude.{◌&&◌, not, eqb}
use Rattle.std.specs.Str.{IsUtf8}
use Rattle.std.proofs.lemmas.Str.{IsCharBoundary-start, IsCharBoundary-end}
use Rattle.node_tree.specs.declared.node.Node.{Node}
use Rattle.node_tree.specs.declared.kind.Kind.{Kind}
use Rattle.node_tree.specs.declared.kind.Kind.TheVariants as k
use Rattle.node_tree.specs.declared.span.Span.{Span}
use Rattle.node_tree.specs.declared.view.Mode.{Mode}
use Rattle.node_tree.specs.declared.view.Shape.{Shape}
use Rattle.node_tree.specs.Span.{LiesIn}
use Rattle.node_tree.specs.Spans.{SpansLieIn}
use Rattle.node_tree.proofs.Nodes.{made_kids, made_span}
use Rattle.node_tree.proofs.SpanLaws.{AllLieIn, none_lie, more_lie, node_lies}
use Rattle.grammar.specs.Rule.{Rule, done, mark, word, ref, deep, again, seq, around, alt, look, choose, opt, must, rep, make, has}
use Rattle.grammar.specs.Renamed.{renamed}
use Rattle.grammar.proofs.Checked.{is_grammar}
use Rattle.c_lex.specs.declared.token.CToken.{CToken}
use Rattle.c_lex.specs.Places.{AreTokensIn}
use Rattle.c_expr.specs.declared.word.Token.{Token}
use Rattle.c_expr.specs.declared.part.Part.{Part}
use Rattle.c_expr.specs.Words.{class, token_of}
use Rattle.c_expr.specs.Table as e
use Rattle.c_expr.specs.Table.{Leaf, Builder}
use Rattle.c_expr.specs.Build.{node, nodes, span_between}
use Rattle.c_expr.proofs.Ends.{goes_on, placed, ends_within, no_end as known_no_end}
use Rattle.c_expr.proofs.Spans.{ArePlaced, PartsLieIn, derived_lie, span_lies}
use Rattle.c_items.specs.Table.{Level, Expression, File, FileItem, Invocation, Invoked, External, Function, Declaration, Declared, VarsTail, Items, Item, Directive, DotsItem, Block, Sub, Labelled, Mark, Label, Case, Default, Statement, Simple, If, While, DoWhile, ForC, ForParts, ForStart, Switch, Return, Jump, Goto, Empty, Evaluated, same, table, grammar}
use Rattle.c_items.specs.reader.Sets.{sets, ranks}
use Rattle.c_unit.specs.Units.{IsAll, IsExpression, IsRun, IsPatternOf, run_span, expression, items, file_items}
use Rattle.c_items.proofs.Passes.{pass}

-- ---- no token of a piece is the end

kept : {L M : Type 0} (f : L → M) (r : Rule Leaf Builder L) → goes_on (renamed same f r) ≡ goes_on r
kept f done = refl
kept f (mark cs) = refl
kept f (word l cs) = refl
kept f (ref l) = refl
kept f (deep l) = refl
kept f again = refl
kept f (seq r s) = λ z. kept f r z && kept f s z
kept f (around cs ds r) = λ z. not (has cs 0) && (not (has ds 0) && kept f r z)
kept f (alt r s) = λ z. kept f r z && kept f s z
kept f (look l cs ds b r s) = λ z. not (has cs 0) && (not (has ds 0) && (kept f r z && kept f s z))
kept f (choose p r s) = λ z. kept f r z && kept f s z
kept f (opt r) = kept f r
kept f (must cs r) = kept f r
kept f (rep l r) = kept f r
kept f (make b r) = kept f r

no_end : (l : Level) → goes_on (table l) ≡ true
unfolding class
no_end (Expression l) = kept Expression (e.table l) ∙ known_no_end l
no_end File = refl
no_end FileItem = refl
no_end Invocation = refl
no_end Invoked = refl
no_end External = refl
no_end Function = refl
no_end Declaration = refl
no_end Declared = refl
no_end VarsTail = refl
no_end Items = refl
no_end Item = refl
no_end Directive = refl
no_end DotsItem = refl
no_end Block = refl
no_end Sub = refl
no_end Labelled = refl
no_end Mark = refl
no_end Label = refl
no_end Case = refl
no_end Default = refl
no_end Statement = refl
no_end Simple = refl
no_end If = refl
no_end While = refl
no_end DoWhile = refl
no_end ForC = refl
no_end ForParts = refl
no_end ForStart = refl
no_end Switch = refl
no_end Return = refl
no_end Jump = refl
no_end Goto = refl
no_end Empty = refl
no_end Evaluated = refl

-- ---- what all tokens are

module _ (text : List ℕ) (ts : List CToken) (lie : AreTokensIn text ts) (mode : Mode) where
  all_placed : ArePlaced text 0 (map (token_of mode) ts)
  all_placed = placed mode text 0 ts lie.lie

  ends_before : (l : Level) (ps : List Part) (end : ℕ) → IsAll l (map (token_of mode) ts) ps end → end < length (map (token_of mode) ts)
  ends_before l ps end a = ends_within table no_end mode ts lie.front lie.last l ps 0 end lie.all lie.end a.piece.spelled (omega arith) a.within

  parts_lie : (l : Level) (ps : List Part) (end : ℕ) → IsAll l (map (token_of mode) ts) ps end → PartsLieIn text ps
  parts_lie l ps end a = derived_lie text (map (token_of mode) ts) sets table all_placed (is_grammar grammar sets ranks pass) a.piece.spelled (ends_before l ps end a)

  block_span : (l : Level) (ps : List Part) (end : ℕ) → IsUtf8 text → IsAll l (map (token_of mode) ts) ps end → LiesIn text (run_span (map (token_of mode) ts) end)
  block_span l ps end utf8 a = by (eqb end 0)
    where
      by : (none : Bool) → LiesIn text (cond none (record { from = 0; to = 0 }) (span_between (map (token_of mode) ts) 0 end))
      by true = record { ordered = omega arith; begins = IsCharBoundary-start text utf8; ends = IsCharBoundary-start text utf8 }
      by false = span_lies text (map (token_of mode) ts) all_placed 0 end (omega arith) (ends_before l ps end a)

nodes_lie : (text : List ℕ) (ps : List Part) → PartsLieIn text ps → AllLieIn text (nodes ps)
nodes_lie text [] h = none_lie text
nodes_lie text (p ∷ ps) h = more_lie text p.node (nodes ps) h.0 (nodes_lie text ps h.1)

-- a node over parts
over_lies : (text : List ℕ) (kind : Kind) (ps : List Part) (span : Span) → LiesIn text span → PartsLieIn text ps → SpansLieIn text (node kind [] (nodes ps) span)
over_lies text kind ps span lies h =
    node_lies text (node kind [] (nodes ps) span) (subst (λ (s : Span). LiesIn text s) (sym (made_span kind [] (nodes ps) span)) lies)
    (subst (λ (ns : List Node). AllLieIn text ns) (sym (made_kids kind [] (nodes ps) span)) (nodes_lie text ps h))

-- ---- files and patterns

pub unit_lies : (text : List ℕ) (ts : List CToken) (mode : Mode) (us : List Token) (ps : List Part) (end : ℕ) (written : List ℕ) (kids : List Node) → IsUtf8 text → AreTokensIn text ts → us ≡ map (token_of mode) ts → IsAll File us ps end → written ≡ [] → kids ≡ nodes ps → SpansLieIn text (node k.Root written kids (record { from = 0; to = length text }))
unit_lies text ts mode us ps end written kids utf8 lie words a no_text all_kids =
    rw (no_text, all_kids)
    (over_lies text k.Root ps (record { from = 0; to = length text }) (record { ordered = omega arith; begins = IsCharBoundary-start text utf8; ends = IsCharBoundary-end text }) (parts_lie text ts lie mode File ps end (subst (λ (vs : List Token). IsAll File vs ps end) words a)))

run_lies : (text : List ℕ) (ts : List CToken) (mode : Mode) (l : Level) (block : Node) → IsUtf8 text → AreTokensIn text ts → IsRun l (map (token_of mode) ts) block → SpansLieIn text block
run_lies text ts mode l block utf8 lie r =
    subst (λ (n : Node). SpansLieIn text n) (sym r.is_block) (over_lies text k.Block r.items (run_span (map (token_of mode) ts) r.end) (block_span text ts lie mode l r.items r.end utf8 r.all) (parts_lie text ts lie mode l r.items r.end r.all))

pub pattern_lies : (text : List ℕ) (ts : List CToken) (mode : Mode) (us : List Token) (shape : Shape) (tree : Node) → IsUtf8 text → AreTokensIn text ts → us ≡ map (token_of mode) ts → IsPatternOf us shape tree → SpansLieIn text tree
pattern_lies text ts mode us shape tree utf8 lie words h = by shape tree (subst (λ (vs : List Token). IsPatternOf vs shape tree) words h)
  where
    by : (shape : Shape) (tree : Node) → IsPatternOf (map (token_of mode) ts) shape tree → SpansLieIn text tree
    by shape tree (expression h) = (parts_lie text ts lie mode (Expression e.Comma) (record { node = tree; depth = h.depth } ∷ []) h.end h.all).0
    by shape tree (items none h) = run_lies text ts mode Items tree utf8 lie h
    by shape tree (file_items none others h) = run_lies text ts mode File tree utf8 lie h
