-- Tokens cut off where one stands inside too many brackets have the same closed runs.
use Rattle.std.proofs.Common.{◌≡◌, ℕ, zero, suc, ◌-◌, ◌<◌, ◌≤◌, List, [], ◌∷◌, length, take, ap, sym, ◌∙◌, arith, inl, inr}
use Rattle.std.specs.Prelude.{◌⊎◌, min, cond, ltb}
use Rattle.std.proofs.lemmas.List.{get_or-take, get_or_past, length-take}
use Rattle.std.proofs.Math.Seq.{take-length}
use Rattle.node_tree.specs.declared.node.Node.{Node}
use Rattle.node_tree.specs.declared.span.Span.{Span}
use Rattle.node_tree.specs.declared.view.Mode.{Mode}
use Rattle.grammar.specs.Rule.{open_at}
use Rattle.grammar.proofs.Counts.{count_same, inside_open}
use Rattle.grammar.proofs.Cuts.{Alike, nothing_open, ends_before, same_run_tests}
use Rattle.c_expr.specs.declared.word.Token.{Token}
use Rattle.c_expr.specs.declared.part.Part.{Part}
use Rattle.c_expr.specs.declared.read.CLevel.{CLevel}
use Rattle.c_expr.specs.Words.{class, of_mode}
use Rattle.c_expr.specs.Table.{Leaf, Builder, Over, Named, TypeWords, Spellings, Pointer, Chain, Rootless, Joined, Widened, grammar}
use Rattle.c_expr.specs.Build.{token_at, start_of, end_of, span_between, end_token, tallest, node, leaf, leaf_kind, leaf_text, leaf_depth, padded, over, absent, graft_all, gathered, type_over, spellings, pointer, joined, chained, widened, built, source}
use Rattle.c_expr.specs.reader.Sets.{sets, ranks, tests}
use Rattle.c_expr.specs.Runs.{round_at}
use Rattle.c_expr.specs.Runs.{level_of, IsRunTree, AreOf}
use Rattle.c_expr.proofs.Passes.{pass}
use Rattle.c_expr.proofs.Closes.{declared}
use Rattle.c_expr.proofs.Depths.{deepens}
use Rattle.c_expr.proofs.Runs.{close, shut, open_behind, end_of_mode}

-- Where tokens are cut off: at the end, or before one that stands inside too many brackets.
pub record IsCut (ts : List Token) (from cut : ℕ) : Type 0 where
  pub ordered : from ≤ cut
  pub within : cut ≤ length ts
  pub many : cut < length ts → 500 < round_at ts from cut

token_here : (ts : List Token) (cut n : ℕ) → n < cut → token_at (take cut ts) n ≡ token_at ts n
token_here ts cut n h = get_or-take cut ts n end_token h

-- what is made goes by the first token and the last
abbrev spanned : ℕ → ℕ → Span
spanned from to = record { from = from; to = to }

same_start : (ts us : List Token) (i : ℕ) → token_at ts i ≡ token_at us i → start_of ts i ≡ start_of us i
same_start ts us i e = ap (λ (t : Token). t.span.from) e

same_span : (ts us : List Token) (i j : ℕ) → token_at ts i ≡ token_at us i → token_at ts (j - 1) ≡ token_at us (j - 1) → span_between ts i j ≡ span_between us i j
same_span ts us i j e f = ap (λ (t : Token). spanned t.span.from (cond (ltb i j) (end_of ts j) t.span.from)) e ∙ ap (λ (t : Token). spanned (start_of us i) (cond (ltb i j) t.span.to (start_of us i))) f

both : {A B C : Type 0} (f : A → B → C) (a b : A) (x y : B) → a ≡ b → x ≡ y → f a x ≡ f b y
both f a b x y e h = ap (λ c. f c x) e ∙ ap (f b) h

same_built : (ts us : List Token) (b : Builder) (i j : ℕ) (ps : List Part) → token_at ts i ≡ token_at us i → token_at ts (j - 1) ≡ token_at us (j - 1) → built ts b i j ps ≡ built us b i j ps
same_built ts us (Over kind n) i j ps e f = both (λ s a. over kind [] s (padded a n ps)) _ _ _ _ (same_span ts us i j e f) (same_start ts us i e)
same_built ts us (Named kind n) i j ps e f = both (λ s (t : Token). over kind t.text s (padded t.span.from n ps)) _ _ _ _ (same_span ts us i j e f) e
same_built ts us TypeWords i j ps e f = ap (λ s. type_over s (gathered ([], []) ps)) (same_span ts us i j e f)
same_built ts us Spellings i j ps e f = ap (λ s. spellings s (gathered ([], []) ps)) (same_span ts us i j e f)
same_built ts us Pointer i j ps e f = ap (λ s. pointer s ps) (same_span ts us i j e f)
same_built ts us Chain i j ps e f = ap (λ a. chained a ps) (same_start ts us i e)
same_built ts us Rootless i j ps e f = ap (λ a. graft_all a (absent a) ps) (same_start ts us i e)
same_built ts us Joined i j ps e f = ap (λ s. joined s ps) (same_span ts us i j e f)
same_built ts us Widened i j ps e f = ap (λ a. widened a ps) (same_start ts us i e)

abbrev made_leaf : Leaf → Token → Part
made_leaf l t = record { node = node (leaf_kind l t.word) (leaf_text l t.word t.text) [] t.span; depth = leaf_depth l }

same_leaf : (ts us : List Token) (l : Leaf) (i : ℕ) → token_at ts i ≡ token_at us i → leaf ts l i ≡ leaf us l i
same_leaf ts us l i e = ap (λ (t : Token). made_leaf l t) e

-- up to a place before the cut nothing is different
alike : (ts : List Token) (cut last : ℕ) → last < cut → Alike (source ts) (source (take cut ts)) last
alike ts cut last h = record {
  cls = λ n le. ap (λ (t : Token). class t.word) (sym (token_here ts cut n (omega (arith, le, h))));
  leaf = λ k n lt. same_leaf ts (take cut ts) k n (sym (token_here ts cut n (omega (arith, lt, h))));
  build = λ b i j ps le le'. ap (λ (p : Part). p ∷ []) (same_built ts (take cut ts) b i j ps (sym (token_here ts cut i (omega (arith, le, le', h)))) (sym (token_here ts cut (j - 1) (omega (arith, le, le', h)))));
}

back : (ts : List Token) (cut last : ℕ) → last < cut → Alike (source (take cut ts)) (source ts) last
back ts cut last h = let a : _ = alike ts cut last h in record {
  cls = λ n le. sym (a.cls n le);
  leaf = λ k n lt. sym (a.leaf k n lt);
  build = λ b i j ps le le'. sym (a.build b i j ps le le');
}

-- either nothing is cut off, or it is before a token
whole_or_cut : (ts : List Token) (cut : ℕ) → cut ≤ length ts → (take cut ts ≡ ts) ⊎ (cut < length ts)
whole_or_cut ts cut h = elim (same_or_less cut (length ts) h) [
  | inl e ↦ inl (rw e (take-length ts))
  | inr l ↦ inr l
]
  where
    same_or_less : (a b : ℕ) → a ≤ b → (a ≡ b) ⊎ (a < b)
    same_or_less a b h = grind arith

cut_length : (ts : List Token) (cut : ℕ) → cut ≤ length ts → length (take cut ts) ≡ cut
cut_length ts cut h = length-take cut ts ∙ least cut (length ts) h
  where
    least : (a b : ℕ) → a ≤ b → min a b ≡ a
    least a b h = grind arith

-- A run of the tokens that are left is one of all.
pub tree_of_all : (mode : Mode) (ts : List Token) (l : CLevel) (from cut : ℕ) (n : Node) (to : ℕ) → IsCut ts from cut → IsRunTree mode (take cut ts) l from n to → IsRunTree mode ts l from n to
unfolding round_at
tree_of_all mode ts l from cut n to c r = elim (whole_or_cut ts cut c.within) [
  | inl e ↦ rw e at r
  | inr some ↦
      let le : to ≤ cut = rw (cut_length ts cut c.within) at r.within in
      let lt : to < cut = ends (le_cases to cut le) some in
      record {
        within = omega (arith, le, c.within);
        depth = r.depth;
        run = same_run_tests grammar sets ranks pass tallest tests declared (of_mode mode) 30 (close mode) (source (take cut ts)) (source ts) (deepens (take cut ts)) (level_of l) (record { node = n; depth = r.depth } ∷ []) from to (shut l) (open_behind l) (back ts cut to lt) r.run;
      }
]
  where
    le_cases : (a b : ℕ) → a ≤ b → (a < b) ⊎ (a ≡ b)
    le_cases a b h = grind arith

    ends : (to < cut) ⊎ (to ≡ cut) → cut < length ts → to < cut
    ends (inl lt) some = lt
    ends (inr eq) some = absurd (omega (arith, many, none, same))
      where
        many : 500 < open_at grammar.opens grammar.closes (source ts).cls from cut
        many = omega (arith, c.many some, inside_open grammar.opens grammar.closes (source ts).cls from cut)

        none : open_at grammar.opens grammar.closes (source (take cut ts)).cls from cut ≡ zero
        none = rw eq at (nothing_open grammar sets ranks pass tallest (source (take cut ts)) (level_of l) (record { node = n; depth = r.depth } ∷ []) from to r.run.piece.spelled)

        same : open_at grammar.opens grammar.closes (source (take cut ts)).cls from cut ≡ open_at grammar.opens grammar.closes (source ts).cls from cut
        same = count_same grammar.opens grammar.closes (source (take cut ts)).cls (source ts).cls from cut (λ k lt. ap (λ (t : Token). class t.word) (token_here ts cut k lt))

-- A run of all is one of the tokens that are left.
pub tree_of_left : (mode : Mode) (ts : List Token) (l : CLevel) (from cut : ℕ) (n : Node) (to : ℕ) → IsCut ts from cut → IsRunTree mode ts l from n to → IsRunTree mode (take cut ts) l from n to
unfolding round_at
tree_of_left mode ts l from cut n to c r = elim (whole_or_cut ts cut c.within) [
  | inl e ↦ rw e r
  | inr some ↦
      let lt : to < cut = ends_before grammar sets ranks pass tallest (source ts) (level_of l) (record { node = n; depth = r.depth } ∷ []) from to cut r.run.piece c.ordered (c.many some) in
      record {
        within = rw (cut_length ts cut c.within) (omega (arith, lt));
        depth = r.depth;
        run = same_run_tests grammar sets ranks pass tallest tests declared (of_mode mode) 30 (close mode) (source ts) (source (take cut ts)) (deepens ts) (level_of l) (record { node = n; depth = r.depth } ∷ []) from to (shut l) (open_behind l) (alike ts cut to lt) r.run;
      }
]

-- the tokens that are left are of the mode
pub left_of_mode : (mode : Mode) (ts : List Token) (cut : ℕ) → AreOf mode ts → AreOf mode (take cut ts)
unfolding class
left_of_mode mode ts cut all k = elim (less_or_not k cut) [
  | inl lt ↦ rw (token_here ts cut k lt) (all k)
  | inr ge ↦ rw (get_or_past (take cut ts) k end_token (omega (arith, length-take cut ts, least cut (length ts), ge))) (end_of_mode mode)
]
  where
    less_or_not : (a b : ℕ) → (a < b) ⊎ (b ≤ a)
    less_or_not a b = grind arith

    least : (a b : ℕ) → min a b ≤ a
    least a b = grind arith

-- the tokens that are left stand inside as many brackets
pub few_left : (ts : List Token) (from cut n : ℕ) → n < cut → round_at ts from n ≤ 500 → round_at (take cut ts) from n ≤ 500
unfolding round_at
few_left ts from cut n h few = rw (same n (omega (arith, h)), same (suc n) (omega (arith, h))) few
  where
    same : (m : ℕ) → m ≤ cut → open_at grammar.opens grammar.closes (source (take cut ts)).cls from m ≡ open_at grammar.opens grammar.closes (source ts).cls from m
    same m le = count_same grammar.opens grammar.closes (source (take cut ts)).cls (source ts).cls from m (λ k lt. ap (λ (t : Token). class t.word) (token_here ts cut k (omega (arith, lt, le))))

-- a place before the end of what is left is before the cut
pub end_within : (ts : List Token) (cut to n : ℕ) → n < to → to ≤ length (take cut ts) → n < cut
end_within ts cut to n h within = omega (arith, h, within, length-take cut ts, least cut (length ts))
  where
    least : (a b : ℕ) → min a b ≤ a
    least a b = grind arith
