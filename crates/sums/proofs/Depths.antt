-- How deep what a builder makes is.
use Rattle.std.proofs.Common.{◌≡◌, ℕ, ◌<◌, ◌≤◌, List, [], ◌∷◌, ◌++◌, refl, arith}
use Rattle.std.specs.Prelude.{true, false, max}
use Rattle.sums.specs.declared.token.Token.{Token}
use Rattle.sums.specs.declared.node.Kind.{Kind}
use Rattle.sums.specs.declared.node.Kind.TheVariants as k
use Rattle.grammar.specs.Rule.{Deepens}
use Rattle.sums.specs.Token.{token_at, end_of}
use Rattle.sums.specs.Tree.{Tree, node, depth, depth_all}
use Rattle.sums.specs.Table.{Builder, Group, Several, Left, Operation, Negation, Conversion, Arguments, Named, strong}
use Rattle.sums.specs.Build.{plain, grafted, graft_all, left, group, build, source}
use Rattle.grammar.proofs.Facts.{true_false}

in_left : (ys zs : List Tree) → depth_all ys ≤ depth_all (ys ++ zs)
in_left [] zs = omega arith
in_left (y ∷ ys) zs = omega (arith, in_left ys zs)

in_right : (ys zs : List Tree) → depth_all zs ≤ depth_all (ys ++ zs)
in_right [] zs = omega arith
in_right (y ∷ ys) zs = omega (arith, in_right ys zs)

deeper : (kind : Kind) (text from to : ℕ) (ys : List Tree) → depth_all ys < depth_all (plain kind text from to ys)
deeper kind text from to ys = omega arith

grafted_deep : (from : ℕ) (t p : Tree) → max (depth t) (depth p) ≤ depth (grafted from t p)
grafted_deep from t (node kind text f to kids) = omega arith

graft_all_deep : (from : ℕ) (ps : List Tree) (t : Tree) → max (depth t) (depth_all ps) ≤ depth (graft_all from t ps)
graft_all_deep from [] t = omega arith
graft_all_deep from (p ∷ ps) t = omega (arith, graft_all_deep from ps (grafted from t p), grafted_deep from t p)

left_deep : (from : ℕ) (ys : List Tree) → depth_all ys ≤ depth_all (left from ys)
left_deep from [] = omega arith
left_deep from (t ∷ ps) = omega (arith, graft_all_deep from ps t)

group_deep : (from to : ℕ) (ys : List Tree) → depth_all ys ≤ depth_all (group from to ys)
group_deep from to [] = omega arith
group_deep from to (t ∷ []) = omega arith
group_deep from to (t ∷ node kind text f e ts ∷ []) = omega arith
group_deep from to (t ∷ node kind text f e ts ∷ u ∷ us) = omega arith

weak : (ts : List Token) (b : Builder) (i j : ℕ) (ys : List Tree) → depth_all ys ≤ depth_all (build ts b i j ys)
weak ts Group i j ys = group_deep (token_at ts i).from (end_of ts j) ys
weak ts Several i j ys = omega (arith, deeper k.List 0 0 0 ys)
weak ts Left i j ys = left_deep (token_at ts i).from ys
weak ts Operation i j ys = omega (arith, deeper k.Binary (token_at ts i).text (token_at ts i).from (end_of ts j) ys)
weak ts Negation i j ys = omega (arith, deeper k.Negative 0 (token_at ts i).from (end_of ts j) ys)
weak ts Conversion i j ys = omega (arith, deeper k.Cast 0 (token_at ts i).from (end_of ts j) ys)
weak ts Arguments i j ys = omega (arith, deeper k.Call 0 (token_at ts i).from (end_of ts j) ys)
weak ts Named i j ys = omega (arith, deeper k.Keyword 0 (token_at ts i).from (end_of ts j) ys)

strict : (ts : List Token) (b : Builder) (i j : ℕ) (ys : List Tree) → strong b ≡ true → depth_all ys < depth_all (build ts b i j ys)
strict ts Group i j ys h = true_false false h refl
strict ts Several i j ys h = deeper k.List 0 0 0 ys
strict ts Left i j ys h = true_false false h refl
strict ts Operation i j ys h = deeper k.Binary (token_at ts i).text (token_at ts i).from (end_of ts j) ys
strict ts Negation i j ys h = deeper k.Negative 0 (token_at ts i).from (end_of ts j) ys
strict ts Conversion i j ys h = deeper k.Cast 0 (token_at ts i).from (end_of ts j) ys
strict ts Arguments i j ys h = deeper k.Call 0 (token_at ts i).from (end_of ts j) ys
strict ts Named i j ys h = deeper k.Keyword 0 (token_at ts i).from (end_of ts j) ys

pub deepens : (ts : List Token) → Deepens strong depth_all (source ts)
deepens ts = record { left = in_left; right = in_right; weak = weak ts; strict = strict ts }
