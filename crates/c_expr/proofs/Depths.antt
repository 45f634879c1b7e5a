-- How deep what a builder makes is.
use Rattle.std.proofs.Common.{◌≡◌, ℕ, zero, suc, ◌<◌, ◌≤◌, List, [], ◌∷◌, ◌++◌, refl, arith, Bool, true, false, cond}
use Rattle.std.specs.Prelude.{max, eqb}
use Rattle.node_tree.specs.declared.kind.Kind.{Kind}
use Rattle.node_tree.specs.declared.kind.Kind.TheVariants as k
use Rattle.node_tree.specs.declared.span.Span.{Span}
use Rattle.node_tree.specs.Order.{kind_place}
use Rattle.node_tree.specs.Tree.{kind_of, text_of}
use Rattle.grammar.specs.Rule.{Deepens}
use Rattle.grammar.proofs.Facts.{true_false, and_both}
use Rattle.c_expr.specs.declared.word.Token.{Token}
use Rattle.c_expr.specs.declared.part.Part.{Part}
use Rattle.c_expr.specs.Table.{Builder, Over, Named, TypeWords, Spellings, Pointer, Chain, Rootless, Joined, Widened, strong}
use Rattle.c_expr.specs.Build.{token_at, start_of, span_between, tallest, padded, over, absent, grafted, graft_all, is_spelling, spelled_more, gathered, pointer, joined, chained, widened, built, source}

pub in_left : (ys zs : List Part) → tallest ys ≤ tallest (ys ++ zs)
in_left [] zs = omega arith
in_left (y ∷ ys) zs = omega (arith, in_left ys zs)

pub in_right : (ys zs : List Part) → tallest zs ≤ tallest (ys ++ zs)
in_right [] zs = omega arith
in_right (y ∷ ys) zs = omega (arith, in_right ys zs)

at_end : (ys : List Part) (p : Part) → max (tallest ys) p.depth ≤ tallest (ys ++ p ∷ [])
at_end [] p = omega arith
at_end (y ∷ ys) p = omega (arith, at_end ys p)

padded_deep : (at n : ℕ) (ps : List Part) → tallest ps ≤ tallest (padded at n ps)
padded_deep at zero ps = omega arith
padded_deep at (suc n) [] = omega arith
padded_deep at (suc n) (p ∷ ps) = omega (arith, padded_deep at n ps)

over_deep : (kind : Kind) (text : List ℕ) (span : Span) (ps : List Part) → tallest ps < (over kind text span ps).depth
unfolding over
over_deep kind text span ps = omega arith

pub grafted_deep : (from : ℕ) (t p : Part) → max t.depth p.depth ≤ (grafted from t p).depth
unfolding grafted
grafted_deep from t p = omega arith

graft_all_deep : (from : ℕ) (ps : List Part) (t : Part) → max t.depth (tallest ps) ≤ (graft_all from t ps).depth
graft_all_deep from [] t = omega arith
graft_all_deep from (p ∷ ps) t = omega (arith, graft_all_deep from ps (grafted from t p), grafted_deep from t p)

flat : (p : Part) → is_spelling p ≡ true → p.depth ≡ 0
unfolding is_spelling
flat p h = zero_of p.depth (and_both (eqb (kind_place (kind_of p.node)) (kind_place k.Keyword)) (eqb p.depth 0) h).1
  where
    zero_of : (n : ℕ) → eqb n 0 ≡ true → n ≡ 0
    zero_of n e = grind arith

gathered_deep : (s : List ℕ × List Part) (ps : List Part) → max (tallest s.1) (tallest ps) ≤ tallest (gathered s ps).1
gathered_deep s [] = omega arith
gathered_deep s (p ∷ ps) = by (is_spelling p) refl (gathered_deep (spelled_more s.0 (text_of p.node), s.1) ps) (gathered_deep (s.0, s.1 ++ p ∷ []) ps)
  where
    by : (b : Bool) → is_spelling p ≡ b → max (tallest s.1) (tallest ps) ≤ tallest (gathered (spelled_more s.0 (text_of p.node), s.1) ps).1 → max (tallest (s.1 ++ p ∷ [])) (tallest ps) ≤ tallest (gathered (s.0, s.1 ++ p ∷ []) ps).1 → max (tallest s.1) (max p.depth (tallest ps)) ≤ tallest (gathered (cond b (spelled_more s.0 (text_of p.node), s.1) (s.0, s.1 ++ p ∷ [])) ps).1
    by true e x y = omega (arith, x, flat p e)
    by false e x y = omega (arith, y, at_end s.1 p)

pointer_deep : (span : Span) (ps : List Part) → tallest ps < (pointer span ps).depth
pointer_deep span [] = omega arith
pointer_deep span (p ∷ ps) = omega (arith, padded_deep span.from 1 ps)

joined_deep : (span : Span) (ps : List Part) → tallest ps ≤ (joined span ps).depth
joined_deep span [] = omega (arith, over_deep k.StrJoin [] span [])
joined_deep span (p ∷ []) = omega arith
joined_deep span (p ∷ q ∷ ps) = omega (arith, over_deep k.StrJoin [] span (p ∷ q ∷ ps))

chained_deep : (from : ℕ) (ps : List Part) → tallest ps ≤ (chained from ps).depth
chained_deep from [] = omega arith
chained_deep from (p ∷ ps) = omega (arith, graft_all_deep from ps p)

widened_deep : (from : ℕ) (ps : List Part) → tallest ps ≤ (widened from ps).depth
widened_deep from [] = omega arith
widened_deep from (p ∷ ps) = omega arith

pub weak : (ts : List Token) (b : Builder) (i j : ℕ) (ps : List Part) → tallest ps ≤ (built ts b i j ps).depth
weak ts (Over kind n) i j ps = omega (arith, over_deep kind [] (span_between ts i j) (padded (start_of ts i) n ps), padded_deep (start_of ts i) n ps)
weak ts (Named kind n) i j ps = omega (arith, over_deep kind (token_at ts i).text (span_between ts i j) (padded (start_of ts i) n ps), padded_deep (start_of ts i) n ps)
weak ts TypeWords i j ps = omega (arith, over_deep k.TypeSpec (gathered ([], []) ps).0 (span_between ts i j) (gathered ([], []) ps).1, gathered_deep ([], []) ps)
weak ts Spellings i j ps = omega (arith, gathered_deep ([], []) ps)
weak ts Pointer i j ps = omega (arith, pointer_deep (span_between ts i j) ps)
weak ts Chain i j ps = chained_deep (start_of ts i) ps
weak ts Rootless i j ps = omega (arith, graft_all_deep (start_of ts i) ps (absent (start_of ts i)))
weak ts Joined i j ps = joined_deep (span_between ts i j) ps
weak ts Widened i j ps = widened_deep (start_of ts i) ps

strict : (ts : List Token) (b : Builder) (i j : ℕ) (ps : List Part) → strong b ≡ true → tallest ps < (built ts b i j ps).depth
strict ts (Over kind n) i j ps h = omega (arith, over_deep kind [] (span_between ts i j) (padded (start_of ts i) n ps), padded_deep (start_of ts i) n ps)
strict ts (Named kind n) i j ps h = omega (arith, over_deep kind (token_at ts i).text (span_between ts i j) (padded (start_of ts i) n ps), padded_deep (start_of ts i) n ps)
strict ts TypeWords i j ps h = omega (arith, over_deep k.TypeSpec (gathered ([], []) ps).0 (span_between ts i j) (gathered ([], []) ps).1, gathered_deep ([], []) ps)
strict ts Pointer i j ps h = pointer_deep (span_between ts i j) ps
strict ts Spellings i j ps h = true_false false h refl
strict ts Chain i j ps h = true_false false h refl
strict ts Rootless i j ps h = true_false false h refl
strict ts Joined i j ps h = true_false false h refl
strict ts Widened i j ps h = true_false false h refl

pub deepens : (ts : List Token) → Deepens strong tallest (source ts)
deepens ts = record { left = in_left; right = in_right; weak = λ b i j ps. omega (arith, weak ts b i j ps); strict = λ b i j ps h. omega (arith, strict ts b i j ps h) }
