-- A piece has no end of the tokens in it, and the spans of a run's tree lie in the text where the tokens do.
use Rattle.std.proofs.Common.{◌≡◌, ℕ, suc, ◌<◌, ◌≤◌, List, [], ◌∷◌, ◌++◌, length, map, refl, ap, ◌∙◌, arith, Bool, true, false, inl, inr}
use Rattle.std.specs.Prelude.{◌&&◌, ◌⊎◌, not, None}
use Rattle.node_tree.specs.declared.node.Node.{Node}
use Rattle.node_tree.specs.declared.view.Mode.{Mode}
use Rattle.node_tree.specs.declared.view.Mode.TheVariants as modes
use Rattle.node_tree.specs.Spans.{SpansLieIn}
use Rattle.grammar.specs.Rule.{done, mark, word, ref, deep, again, seq, around, alt, look, choose, opt, must, rep, make, has, Rule, Table, Loop, outside, within, Derives, d_done, d_mark, d_word, d_ref, d_deep, d_again, d_rep, d_seq, d_around, d_left, d_right, d_seen, d_unseen, d_chosen, d_unchosen, d_without, d_with, d_barred, d_taken, d_make}
use Rattle.grammar.specs.Sets.{nul}
use Rattle.grammar.proofs.Facts.{true_false, and_both, not_true}
use Rattle.grammar.proofs.Bounded.{forward, still}
use Rattle.grammar.proofs.Spelled.{IsGrammar}
use Rattle.grammar.proofs.Checked.{is_grammar}
use Rattle.c_lex.specs.declared.token.CToken.{CToken}
use Rattle.c_lex.specs.declared.token.CWord.TheVariants as lexed
use Rattle.c_expr.specs.declared.word.Token.{Token}
use Rattle.c_expr.specs.declared.part.Part.{Part}
use Rattle.c_expr.specs.declared.read.CLevel.{CLevel}
use Rattle.c_expr.specs.declared.read.CLevel.TheVariants as levels
use Rattle.c_expr.specs.Words.{class, in_mode, token_of, word_of}
use Rattle.c_expr.specs.Table.{Level, Comma, CommaTail, Assign, AssignMore, Cond, CondPart, Or, OrOps, OrTail, And, AndOps, AndTail, BitOr, BitOrOps, BitOrTail, BitXor, BitXorOps, BitXorTail, BitAnd, BitAndOps, BitAndTail, Equality, EqualityOps, EqualityTail, Relational, RelationalOps, RelationalTail, Shift, ShiftOps, ShiftTail, Additive, AdditiveOps, AdditiveTail, Multiplicative, MultiplicativeOps, MultiplicativeTail, Cast, Unary, Sizeof, Postfix, PostfixTail, Suffix, Prim, Strings, StringsTail, Deep, Args, ArgsTail, Arg, Tname, Spec, SpecStart, QualifiersTail, Typed, TypedFirst, TypedTail, Group, Body, Enumerators, EnumeratorsTail, Enumerator, Fields, Field, Members, MembersTail, Member, Width, Declr, NamedDirect, DeclrFirst, Nameless, NamelessDirect, Maybe, MaybeDirect, DeclrTail, DeclrPart, Stars, Words, Params, ParamsTail, Param, Var, Init, Inis, InisTail, Ini, Desigs, DesigsTail, Desig, Leaf, Builder, table, grammar}
use Rattle.c_expr.specs.Build.{token_at, source}
use Rattle.c_expr.specs.reader.Sets.{sets, ranks}
use Rattle.c_lex.specs.Places.{TokensLie, AreTokensIn}
use Rattle.c_expr.specs.Runs.{level_of, IsTree}
use Rattle.c_expr.proofs.Passes.{pass}
use Rattle.c_expr.proofs.Spans.{ArePlaced, spans_lie}

-- whether no part of the rule takes the end
abbrev pub goes_on : {L : Type 0} → Rule Leaf Builder L → Bool
goes_on done = true
goes_on (mark cs) = not (has cs 0)
goes_on (word k cs) = not (has cs 0)
goes_on (ref l) = true
goes_on (deep l) = true
goes_on again = true
goes_on (seq r s) = goes_on r && goes_on s
goes_on (around cs ds r) = not (has cs 0) && (not (has ds 0) && goes_on r)
goes_on (alt r s) = goes_on r && goes_on s
goes_on (look k cs ds b r s) = not (has cs 0) && (not (has ds 0) && (goes_on r && goes_on s))
goes_on (choose p r s) = goes_on r && goes_on s
goes_on (opt r) = goes_on r
goes_on (must cs r) = goes_on r
goes_on (rep l r) = goes_on r
goes_on (make b r) = goes_on r

abbrev goes_round : {L : Type 0} → Loop Leaf Builder L → Bool
goes_round outside = true
goes_round (within l r) = goes_on r

pub no_end : (l : Level) → goes_on (table l) ≡ true
unfolding class
no_end Comma = refl
no_end CommaTail = refl
no_end Assign = refl
no_end AssignMore = refl
no_end Cond = refl
no_end CondPart = refl
no_end Or = refl
no_end OrOps = refl
no_end OrTail = refl
no_end And = refl
no_end AndOps = refl
no_end AndTail = refl
no_end BitOr = refl
no_end BitOrOps = refl
no_end BitOrTail = refl
no_end BitXor = refl
no_end BitXorOps = refl
no_end BitXorTail = refl
no_end BitAnd = refl
no_end BitAndOps = refl
no_end BitAndTail = refl
no_end Equality = refl
no_end EqualityOps = refl
no_end EqualityTail = refl
no_end Relational = refl
no_end RelationalOps = refl
no_end RelationalTail = refl
no_end Shift = refl
no_end ShiftOps = refl
no_end ShiftTail = refl
no_end Additive = refl
no_end AdditiveOps = refl
no_end AdditiveTail = refl
no_end Multiplicative = refl
no_end MultiplicativeOps = refl
no_end MultiplicativeTail = refl
no_end Cast = refl
no_end Unary = refl
no_end Sizeof = refl
no_end Postfix = refl
no_end PostfixTail = refl
no_end Suffix = refl
no_end Prim = refl
no_end Strings = refl
no_end StringsTail = refl
no_end Deep = refl
no_end Args = refl
no_end ArgsTail = refl
no_end Arg = refl
no_end Tname = refl
no_end Spec = refl
no_end SpecStart = refl
no_end QualifiersTail = refl
no_end Typed = refl
no_end TypedFirst = refl
no_end TypedTail = refl
no_end Group = refl
no_end Body = refl
no_end Enumerators = refl
no_end EnumeratorsTail = refl
no_end Enumerator = refl
no_end Fields = refl
no_end Field = refl
no_end Members = refl
no_end MembersTail = refl
no_end Member = refl
no_end Width = refl
no_end Declr = refl
no_end NamedDirect = refl
no_end DeclrFirst = refl
no_end Nameless = refl
no_end NamelessDirect = refl
no_end Maybe = refl
no_end MaybeDirect = refl
no_end DeclrTail = refl
no_end DeclrPart = refl
no_end Stars = refl
no_end Words = refl
no_end Params = refl
no_end ParamsTail = refl
no_end Param = refl
no_end Var = refl
no_end Init = refl
no_end Inis = refl
no_end InisTail = refl
no_end Ini = refl
no_end Desigs = refl
no_end DesigsTail = refl
no_end Desig = refl

taken : (cs : List ℕ) (c : ℕ) → has cs c ≡ true → not (has cs 0) ≡ true → c ≡ 0 → ⊥
taken cs c h f e = true_false (has cs 0) (rw e at h) (not_true (has cs 0) f)

earlier_or_later : (a b : ℕ) → (a < b) ⊎ (b ≤ a)
earlier_or_later a b = grind arith

-- no token of a piece is the end, by any table of these builders
module _ {L : Type 0} (rows : Table Leaf Builder L) (none : (l : L) → goes_on (rows l) ≡ true) (ts : List Token) (n : ℕ) (end : (source ts).cls n ≡ 0) where
  at_end : (cs : List ℕ) (i : ℕ) → has cs ((source ts).cls i) ≡ true → not (has cs 0) ≡ true → i ≡ n → ⊥
  at_end cs i h f e = taken cs ((source ts).cls i) h f (ap (λ k. (source ts).cls k) e ∙ end)

  passes_by : {c : Loop Leaf Builder L} {r : Rule Leaf Builder L} {xs : List Part} {i j : ℕ} → Derives (source ts) rows c r xs i j → goes_round c ≡ true → goes_on r ≡ true → i ≤ n → n < j → ⊥
  passes_by (d_done e s) f h le lt = omega (arith, s, le, lt)
  passes_by (d_mark {cs = cs} {i = i} g e s) f h le lt = at_end cs i g h (omega (arith, s, le, lt))
  passes_by (d_word {cs = cs} {i = i} g e s) f h le lt = at_end cs i g h (omega (arith, s, le, lt))
  passes_by (d_ref {l = l} d) f h le lt = passes_by d refl (none l) le lt
  passes_by (d_deep {l = l} d) f h le lt = passes_by d refl (none l) le lt
  passes_by (d_again d) f h le lt = passes_by d f f le lt
  passes_by (d_rep d) f h le lt = passes_by d h h le lt
  passes_by (d_seq {r = r} {s = s} k ys zs d e q) f h le lt = let p : _ = and_both (goes_on r) (goes_on s) h in elim (earlier_or_later n k) [
    | inl before ↦ passes_by d f p.0 le before
    | inr behind ↦ passes_by e f p.1 behind lt
  ]
  passes_by (d_around {cs = cs} {ds = ds} {r = r} {i = i} k g d g' s) f h le lt =
      let p : _ = and_both (not (has cs 0)) (not (has ds 0) && goes_on r) h in
      let q : _ = and_both (not (has ds 0)) (goes_on r) p.1 in
      elim (earlier_or_later i n) [
        | inl behind ↦ elim (earlier_or_later n k) [
          | inl before ↦ passes_by d f q.1 (omega (arith, behind)) before
          | inr last ↦ at_end ds k g' q.0 (omega (arith, last, s, lt))
        ]
        | inr first ↦ at_end cs i g p.0 (omega (arith, first, le))
      ]
  passes_by (d_left {r = r} {s = s} d) f h le lt = passes_by d f (and_both (goes_on r) (goes_on s) h).0 le lt
  passes_by (d_right {r = r} {s = s} d) f h le lt = passes_by d f (and_both (goes_on r) (goes_on s) h).1 le lt
  passes_by (d_seen {cs = cs} {ds = ds} {r = r} {s = s} {i = i} ys g g' d e) f h le lt =
      let p : _ = and_both (not (has cs 0)) (not (has ds 0) && (goes_on r && goes_on s)) h in
      let q : _ = and_both (not (has ds 0)) (goes_on r && goes_on s) p.1 in
      elim (earlier_or_later i n) [
        | inl behind ↦ elim (earlier_or_later (suc i) n) [
          | inl further ↦ passes_by d f (and_both (goes_on r) (goes_on s) q.1).0 (omega (arith, further)) lt
          | inr second ↦ at_end ds (suc i) g' q.0 (omega (arith, second, behind))
        ]
        | inr first ↦ at_end cs i g p.0 (omega (arith, first, le))
      ]
  passes_by (d_unseen {cs = cs} {ds = ds} {r = r} {s = s} g d) f h le lt =
      let p : _ = and_both (not (has cs 0)) (not (has ds 0) && (goes_on r && goes_on s)) h in
      let q : _ = and_both (not (has ds 0)) (goes_on r && goes_on s) p.1 in
      passes_by d f (and_both (goes_on r) (goes_on s) q.1).1 le lt
  passes_by (d_chosen {r = r} {s = s} g d) f h le lt = passes_by d f (and_both (goes_on r) (goes_on s) h).0 le lt
  passes_by (d_unchosen {r = r} {s = s} g d) f h le lt = passes_by d f (and_both (goes_on r) (goes_on s) h).1 le lt
  passes_by (d_without e s) f h le lt = omega (arith, s, le, lt)
  passes_by (d_with d) f h le lt = passes_by d f h le lt
  passes_by (d_barred g e s) f h le lt = omega (arith, s, le, lt)
  passes_by (d_taken d) f h le lt = passes_by d f h le lt
  passes_by (d_make ys d s) f h le lt = passes_by d f h le lt

-- ---- the tokens of the scanner

pub placed : (mode : Mode) (text : List ℕ) (from : ℕ) (ts : List CToken) → TokensLie text from ts → ArePlaced text from (map (token_of mode) ts)
placed mode text from [] h = tt
placed mode text from (t ∷ ts) h = (h.0, h.1, placed mode text t.span.to ts h.2)

end_word : (mode : Mode) (t : CToken) → t.word ≡ lexed.End → class (in_mode mode (word_of mode t.word t.text)) ≡ 0
unfolding in_mode class
end_word modes.Text t h = rw h refl
end_word modes.Pattern t h = rw h refl

end_there : (mode : Mode) (front : List CToken) (t : CToken) → t.word ≡ lexed.End → class (token_at (map (token_of mode) (front ++ t ∷ [])) (length front)).word ≡ 0
end_there mode [] t h = end_word mode t h
end_there mode (u ∷ front) t h = end_there mode front t h

one_more : (mode : Mode) (front : List CToken) (t : CToken) → length (map (token_of mode) (front ++ t ∷ [])) ≡ suc (length front)
one_more mode [] t = refl
one_more mode (u ∷ front) t = ap suc (one_more mode front t)

-- a piece ends before the end, or at it
pub ends_within : {L : Type 0} (rows : Table Leaf Builder L) (none : (l : L) → goes_on (rows l) ≡ true) (mode : Mode) (ts : List CToken) (front : List CToken) (t : CToken) (l : L) (xs : List Part) (i j : ℕ) → ts ≡ front ++ t ∷ [] → t.word ≡ lexed.End → Derives (source (map (token_of mode) ts)) rows outside (rows l) xs i j → i ≤ length front → j ≤ length (map (token_of mode) ts) → j < length (map (token_of mode) ts)
ends_within rows none mode ts front t l xs i j all h d le short = elim (earlier_or_later (length front) j) [
  | inl past ↦ absurd (passes_by rows none (map (token_of mode) ts) (length front) last d refl (none l) le past)
  | inr before ↦ omega (arith, before, size)
]
  where
    last : class (token_at (map (token_of mode) ts) (length front)).word ≡ 0
    last = rw all (end_there mode front t h)

    size : length (map (token_of mode) ts) ≡ suc (length front)
    size = rw all (one_more mode front t)

something : (l : CLevel) → nul sets None (table (level_of l)) ≡ false
something levels.Comma = refl
something levels.Assign = refl
something levels.Cond = refl
something levels.Lor = refl
something levels.Cast = refl
something levels.Unary = refl
something levels.Postfix = refl
something levels.Prim = refl
something levels.Tname = refl
something levels.Spec = refl
something levels.Declr = refl
something levels.Var = refl

-- The spans of a run's tree lie in each text in which its tokens lie.
pub tree_lies : (mode : Mode) (ts : List CToken) (l : CLevel) (from : ℕ) (n : Node) (to : ℕ) (text : List ℕ) → AreTokensIn text ts → IsTree mode ts l from n to → SpansLieIn text n
tree_lies mode ts l from n to text a r = elim (earlier_or_later (length a.front) from) [
  | inl past ↦
      let same : from ≡ to = omega (arith, past, onward, r.within, size) in
      true_false (nul sets None (table (level_of l))) (still (source (map (token_of mode) ts)) table sets grammatical r.run.piece.spelled None (record {}) (grammatical.clear (level_of l)) same) (something l)
  | inr before ↦ (spans_lie text (map (token_of mode) ts) (level_of l) (record { node = n; depth = r.depth } ∷ []) from to (placed mode text 0 ts a.lie) (ends_within table no_end mode ts a.front a.last (level_of l) (record { node = n; depth = r.depth } ∷ []) from to a.all a.end r.run.piece.spelled before r.within) r.run.piece).0
]
  where
    grammatical : IsGrammar sets table
    grammatical = is_grammar grammar sets ranks pass

    onward : from ≤ to
    onward = forward (source (map (token_of mode) ts)) table sets grammatical r.run.piece.spelled

    size : length (map (token_of mode) ts) ≡ suc (length a.front)
    size = rw a.all (one_more mode a.front a.last)
