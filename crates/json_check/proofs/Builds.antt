-- What the moves go through, the grammar spells.
use Rattle.std.proofs.Common.{◌≡◌, ℕ, zero, suc, ◌+◌, ◌-◌, ◌*◌, ◌<◌, ◌≤◌, Bool, true, false, ◌⊎◌, inl, inr, List, [], ◌∷◌, ◌++◌, refl, sym, ap, ◌∙◌, subst, arith}
use Rattle.std.specs.Prelude.{max, Option, Some, None}
use Rattle.node_tree.specs.declared.node.Node.{Node}
use Rattle.node_tree.specs.declared.kind.Kind.TheVariants as kinds
use Rattle.grammar.specs.Rule.{Loop, outside, within, has, Derives, d_mark, d_word, d_ref, d_deep, d_again, d_rep, d_seq, d_around, d_left, d_right, d_without, d_with, d_make}
use Rattle.json_tree.specs.declared.token.Token.{Token}
use Rattle.json_tree.specs.declared.token.Word.{Word}
use Rattle.json_tree.specs.declared.token.Word.TheVariants as w
use Rattle.json_tree.specs.Words.{class}
use Rattle.json_tree.specs.Table as t
use Rattle.json_tree.specs.Build.{token_at, end_of, node, leaf, source, depth_all}
use Rattle.json_tree.proofs.Depths.{node_depth}
use Rattle.json_check.specs.declared.nest.Container.{Container}
use Rattle.json_check.specs.declared.nest.Container.TheVariants.{Array, Object}
use Rattle.json_check.specs.declared.nest.Next.{Next}
use Rattle.json_check.specs.declared.nest.Next.TheVariants.{Value, ItemOrEnd, NameOrEnd, Name, Colon, CommaOrEnd}
use Rattle.json_check.specs.fronts.Moves.{Standing, first_in, steps_in, behind_token, value_move, within as in_depth, moved}
use Rattle.json_check.proofs.Runs.{at, word_at, Runs, r_here, r_on, runs_forward, next_in}
use Rattle.json_check.proofs.Accepts.{leaf_depth, part, tail, left_of, right_of}
use Rattle.json_check.proofs.Taken.{Valued, value_taken, name_taken, colon_taken, Begins, Closes, next_taken, first_taken, comma_taken}

depth_both : (ys zs : List Node) (n : ℕ) → depth_all ys ≤ n → depth_all zs ≤ n → depth_all (ys ++ zs) ≤ n
depth_both [] zs n a b = b
depth_both (y ∷ ys) zs n a b = let r = depth_both ys zs n (omega (arith, a)) b in omega (arith, a, r)

mark_is : (x y : Word) → y ≡ x → has (class x ∷ []) (class y) ≡ true
unfolding class
mark_is x y e = rw e (same x)
  where
    same : (x : Word) → has (class x ∷ []) (class x) ≡ true
    same w.End = refl
    same w.LeftBrace = refl
    same w.RightBrace = refl
    same w.LeftBracket = refl
    same w.RightBracket = refl
    same w.Comma = refl
    same w.Colon = refl
    same w.Str = refl
    same w.Number = refl
    same w.Const = refl
    same w.StrAny = refl
    same w.Meta = refl
    same w.MetaDots = refl
    same w.Dots = refl
    same w.DeepOpen = refl
    same w.DeepClose = refl

name_is : (y : Word) → y ≡ w.Str → has t.names (class y) ≡ true
unfolding class
name_is y e = rw e refl

module _ (ts : List Token) (m e : ℕ) where
  -- from here to the end of a value that stands alone
  abbrev Over : Standing → ℕ → Type 0
  Over s i = Runs ts s i (at CommaOrEnd [] e) m

  record Built (c : Loop _ _ _) (r : t.Row) (i most : ℕ) (On : ℕ → List Node → Type 0) : Type 0 where
    to : ℕ
    nodes : List Node
    spelled : Derives (source ts) t.table c r nodes i to
    shallow : depth_all nodes + most ≤ 500
    on : On to nodes

  -- behind a value, and behind what stands in a container
  abbrev Past : List Container → ℕ → ℕ → ℕ → List Node → Type 0
  Past o d i to nodes = Over (at CommaOrEnd o d) to × (i < to) × ((n : Node) × (nodes ≡ n ∷ []))

  abbrev Inside : Container → List Container → ℕ → ℕ → ℕ → List Node → Type 0
  Inside c o d i to nodes = Over (at CommaOrEnd o d) (suc to) × (i ≤ to) × (word_at ts to ≡ right_of c)

  again : {s u : Standing} {i : ℕ} → s ≡ u → Over s i → Over u i
  again {i = i} q r = subst (λ (s : Standing). Over s i) q r

  unclosed : (c : Container) (o : List Container) (d : ℕ) → (d + steps_in c) - steps_in c ≡ d
  unclosed c o d = omega arith

  -- all of it, up to k steps; a step is half a token
  record Steps (k : ℕ) : Type 0 where
    values : (o : List Container) (d i : ℕ) (u : Standing) → 2 * m ≤ 2 * i + k → Begins Array o d (word_at ts i) u → Over u (suc i) → Built outside (t.table t.Value) i d (Past o d i)
    insides : (c : Container) (o : List Container) (d i : ℕ) → 2 * m + 1 ≤ 2 * i + k → d ≤ 499 → Over (at (first_in c) (c ∷ o) (d + steps_in c)) i → Built outside (t.listed (part c) (tail c)) i (d + 1) (Inside c o d i)
    tails : (c : Container) (o : List Container) (d i : ℕ) → 2 * m + 1 ≤ 2 * i + k → d ≤ 499 → Over (at CommaOrEnd (c ∷ o) (d + steps_in c)) i → Built (within (tail c) (t.further (part c))) (t.further (part c)) i (d + 1) (Inside c o d i)

  value_of : (k : ℕ) (all : Steps k) (o : List Container) (d i : ℕ) (u : Standing) → 2 * m ≤ 2 * i + suc k → d ≤ 499 → Valued o d (word_at ts i) u → Over u (suc i) → Built outside (t.table t.Value) i d (Past o d i)
  value_of k all o d i u le deep (inl (h, q)) r = record {
    to = suc i;
    nodes = leaf (token_at ts i) ∷ [];
    spelled = d_left (d_word h refl refl);
    shallow = omega (arith, deep, leaf_depth (token_at ts i));
    on = (again q r, omega arith, (leaf (token_at ts i), refl));
  }
  value_of k all o d i u le deep (inr (inl (h, q))) r =
      let b = all.insides Array o d (suc i) (omega (arith, le)) deep (again q r) in record {
        to = suc b.to;
        nodes = node kinds.Array (token_at ts i).span.from (end_of ts (suc b.to)) b.nodes ∷ [];
        spelled = d_right (d_left (d_ref (d_make b.nodes (d_around b.to (mark_is w.LeftBracket (word_at ts i) h) (d_deep b.spelled) (mark_is w.RightBracket (word_at ts b.to) b.on.2) refl) refl)));
        shallow = omega (arith, b.shallow, node_depth kinds.Array (token_at ts i).span.from (end_of ts (suc b.to)) b.nodes);
        on = (b.on.0, omega (arith, b.on.1), (node kinds.Array (token_at ts i).span.from (end_of ts (suc b.to)) b.nodes, refl));
      }
  value_of k all o d i u le deep (inr (inr (h, q))) r =
      let b = all.insides Object o d (suc i) (omega (arith, le)) deep (again q r) in record {
        to = suc b.to;
        nodes = node kinds.Object (token_at ts i).span.from (end_of ts (suc b.to)) b.nodes ∷ [];
        spelled = d_right (d_right (d_left (d_ref (d_make b.nodes (d_around b.to (mark_is w.LeftBrace (word_at ts i) h) (d_deep b.spelled) (mark_is w.RightBrace (word_at ts b.to) b.on.2) refl) refl))));
        shallow = omega (arith, b.shallow, node_depth kinds.Object (token_at ts i).span.from (end_of ts (suc b.to)) b.nodes);
        on = (b.on.0, omega (arith, b.on.1), (node kinds.Object (token_at ts i).span.from (end_of ts (suc b.to)) b.nodes, refl));
      }

  member_of : (k : ℕ) (all : Steps k) (o : List Container) (d i : ℕ) → 2 * m ≤ 2 * i + suc k → d + 2 ≤ 499 → word_at ts i ≡ w.Str → word_at ts (suc i) ≡ w.Colon → Over (at Value (Object ∷ o) (d + 2)) (suc (suc i)) → Built outside (t.table t.Entry) i (d + 1) (Past (Object ∷ o) (d + 2) i)
  member_of k all o d i le deep n c (r_here q f) = let h : Value ≡ CommaOrEnd = ap (λ (s : Standing). s.next) q in absurd cc
  member_of k all o d i le deep n c (r_on u q r) =
      let b = all.values (Object ∷ o) (d + 2) (suc (suc i)) u (omega (arith, le)) q r in
      let kids : List Node = leaf (token_at ts i) ∷ b.nodes in
      let it : Node = node kinds.Member (token_at ts i).span.from (end_of ts b.to) kids in record {
        to = b.to;
        nodes = it ∷ [];
        spelled = d_right (d_ref (d_make kids (d_seq (suc i) (leaf (token_at ts i) ∷ []) b.nodes (d_word (name_is (word_at ts i) n) refl refl) (d_seq (suc (suc i)) [] b.nodes (d_mark (mark_is w.Colon (word_at ts (suc i)) c) refl refl) (d_deep b.spelled) refl) refl) refl));
        shallow = omega (arith, b.shallow, deep, leaf_depth (token_at ts i), node_depth kinds.Member (token_at ts i).span.from (end_of ts b.to) kids);
        on = (b.on.0, omega (arith, b.on.1), (it, refl));
      }

  colon_of : (k : ℕ) (all : Steps k) (o : List Container) (d i : ℕ) → 2 * m ≤ 2 * i + suc k → d + 2 ≤ 499 → word_at ts i ≡ w.Str → Over (at Colon (Object ∷ o) (d + 2)) (suc i) → Built outside (t.table t.Entry) i (d + 1) (Past (Object ∷ o) (d + 2) i)
  colon_of k all o d i le deep n (r_here q f) = let h : Colon ≡ CommaOrEnd = ap (λ (s : Standing). s.next) q in absurd cc
  colon_of k all o d i le deep n (r_on u q r) = let p = colon_taken (Object ∷ o) (d + 2) (word_at ts (suc i)) u q in member_of k all o d i le deep n p.0 (again p.1 r)

  part_built : (k : ℕ) (all : Steps k) (c : Container) (o : List Container) (d i : ℕ) (u : Standing) → 2 * m ≤ 2 * i + k → Begins c (c ∷ o) (d + steps_in c) (word_at ts i) u → Over u (suc i) → Built outside (t.table (part c)) i (d + 1) (Past (c ∷ o) (d + steps_in c) i)
  part_built k all Array o d i u le h r = all.values (Array ∷ o) (d + 1) i u le h r
  part_built k all Object o d i u le h r = let p = name_taken (Object ∷ o) (d + 2) (word_at ts i) u h in colon_of k all o d i (omega (arith, le)) p.0 p.1.0 (again p.1.1 r)

  first_of : (k : ℕ) (all : Steps k) (c : Container) (o : List Container) (d i : ℕ) (u : Standing) → 2 * m + 1 ≤ 2 * i + suc k → d ≤ 499 → Closes c o (d + steps_in c) (word_at ts i) u ⊎ Begins c (c ∷ o) (d + steps_in c) (word_at ts i) u → Over u (suc i) → Built outside (t.listed (part c) (tail c)) i (d + 1) (Inside c o d i)
  first_of k all c o d i u le deep (inl (h, q)) r = record {
    to = i;
    nodes = [];
    spelled = d_without refl refl;
    shallow = omega (arith, deep);
    on = (again (q ∙ ap (λ (n : ℕ). at CommaOrEnd o n) (unclosed c o d)) r, omega arith, h);
  }
  first_of k all c o d i u le deep (inr h) r =
      let a = part_built k all c o d i u (omega (arith, le)) h r in
      let b = all.tails c o d a.to (omega (arith, le, a.on.1)) deep a.on.0 in record {
        to = b.to;
        nodes = a.nodes ++ b.nodes;
        spelled = d_with (d_seq a.to a.nodes b.nodes (d_ref a.spelled) (d_rep b.spelled) refl);
        shallow = omega (arith, depth_both a.nodes b.nodes (499 - d) (omega (arith, a.shallow)) (omega (arith, b.shallow)), deep);
        on = (b.on.0, omega (arith, a.on.1, b.on.1), b.on.2);
      }

  after_comma : (k : ℕ) (all : Steps k) (c : Container) (o : List Container) (d i : ℕ) → 2 * m + 1 ≤ 2 * i + suc k → d ≤ 499 → word_at ts i ≡ w.Comma → Over (at (next_in c) (c ∷ o) (d + steps_in c)) (suc i) → Built (within (tail c) (t.further (part c))) (t.further (part c)) i (d + 1) (Inside c o d i)
  after_comma k all c o d i le deep h (r_here q f) = absurd (not_next c (ap (λ (s : Standing). s.next) q))
    where
      not_next : (c : Container) → next_in c ≡ CommaOrEnd → ⊥
      not_next Array h = absurd cc
      not_next Object h = absurd cc
  after_comma k all c o d i le deep h (r_on u q r) =
      let a = part_built k all c o d (suc i) u (omega (arith, le)) (next_taken c (c ∷ o) (d + steps_in c) (word_at ts (suc i)) u q) r in
      let b = all.tails c o d a.to (omega (arith, le, a.on.1)) deep a.on.0 in record {
        to = b.to;
        nodes = a.nodes ++ b.nodes;
        spelled = d_with (d_seq (suc i) [] (a.nodes ++ b.nodes) (d_mark (mark_is w.Comma (word_at ts i) h) refl refl) (d_seq a.to a.nodes b.nodes (d_ref a.spelled) (d_again b.spelled) refl) refl);
        shallow = omega (arith, depth_both a.nodes b.nodes (499 - d) (omega (arith, a.shallow)) (omega (arith, b.shallow)), deep);
        on = (b.on.0, omega (arith, a.on.1, b.on.1), b.on.2);
      }

  tail_of : (k : ℕ) (all : Steps k) (c : Container) (o : List Container) (d i : ℕ) (u : Standing) → 2 * m + 1 ≤ 2 * i + suc k → d ≤ 499 → Closes c o (d + steps_in c) (word_at ts i) u ⊎ ((word_at ts i ≡ w.Comma) × (u ≡ at (next_in c) (c ∷ o) (d + steps_in c))) → Over u (suc i) → Built (within (tail c) (t.further (part c))) (t.further (part c)) i (d + 1) (Inside c o d i)
  tail_of k all c o d i u le deep (inl (h, q)) r = record {
    to = i;
    nodes = [];
    spelled = d_without refl refl;
    shallow = omega (arith, deep);
    on = (again (q ∙ ap (λ (n : ℕ). at CommaOrEnd o n) (unclosed c o d)) r, omega arith, h);
  }
  tail_of k all c o d i u le deep (inr (h, q)) r = after_comma k all c o d i le deep h (again q r)

  inside_of : (k : ℕ) (all : Steps k) (c : Container) (o : List Container) (d i : ℕ) → 2 * m + 1 ≤ 2 * i + suc k → d ≤ 499 → Over (at (first_in c) (c ∷ o) (d + steps_in c)) i → Built outside (t.listed (part c) (tail c)) i (d + 1) (Inside c o d i)
  inside_of k all c o d i le deep (r_here q f) = absurd (not_first c (ap (λ (s : Standing). s.next) q))
    where
      not_first : (c : Container) → first_in c ≡ CommaOrEnd → ⊥
      not_first Array h = absurd cc
      not_first Object h = absurd cc
  inside_of k all c o d i le deep (r_on u q r) = first_of k all c o d i u le deep (first_taken c o (d + steps_in c) (word_at ts i) u q) r

  behind_part : (k : ℕ) (all : Steps k) (c : Container) (o : List Container) (d i : ℕ) → 2 * m + 1 ≤ 2 * i + suc k → d ≤ 499 → Over (at CommaOrEnd (c ∷ o) (d + steps_in c)) i → Built (within (tail c) (t.further (part c))) (t.further (part c)) i (d + 1) (Inside c o d i)
  behind_part k all c o d i le deep (r_here q f) = let h : c ∷ o ≡ [] = ap (λ (s : Standing). s.around) q in absurd cc
  behind_part k all c o d i le deep (r_on u q r) = tail_of k all c o d i u le deep (comma_taken c o (d + steps_in c) (word_at ts i) u q) r

  steps : (k : ℕ) → Steps k
  steps zero = record {
    values = λ o d i u le h r. absurd (omega (arith, le, runs_forward r));
    insides = λ c o d i le deep r. absurd (omega (arith, le, runs_forward r));
    tails = λ c o d i le deep r. absurd (omega (arith, le, runs_forward r));
  }
  steps (suc k) = let all = steps k in record {
    values = λ o d i u le h r. (let p = value_taken o d (word_at ts i) u h in value_of k all o d i u le p.0 p.1 r);
    insides = λ c o d i le deep r. inside_of k all c o d i le deep r;
    tails = λ c o d i le deep r. behind_part k all c o d i le deep r;
  }

  -- what the moves go through is a value
  pub value_built : (i d : ℕ) → Over (at Value [] d) i → i ≤ m → (n : Node) × Derives (source ts) t.table outside (t.table t.Value) (n ∷ []) i m × (depth_all (n ∷ []) + d ≤ 500)
  value_built i d (r_here q f) le = let h : Value ≡ CommaOrEnd = ap (λ (s : Standing). s.next) q in absurd cc
  value_built i d (r_on u q r) le = let b = (steps (2 * m)).values [] d i u (omega arith) q r in alone b.to b.nodes b.spelled b.shallow b.on.0 b.on.2.0 b.on.2.1
    where
      alone : (to : ℕ) (nodes : List Node) → Derives (source ts) t.table outside (t.table t.Value) nodes i to → depth_all nodes + d ≤ 500 → Over (at CommaOrEnd [] d) to → (n : Node) → nodes ≡ n ∷ [] → (n : Node) × Derives (source ts) t.table outside (t.table t.Value) (n ∷ []) i m × (depth_all (n ∷ []) + d ≤ 500)
      alone to nodes s l (r_here q f) n is = (n, subst (λ (j : ℕ). Derives (source ts) t.table outside (t.table t.Value) (n ∷ []) i j) f (subst (λ (ns : List Node). Derives (source ts) t.table outside (t.table t.Value) ns i to) is s), subst (λ (ns : List Node). depth_all ns + d ≤ 500) is l)
      alone to nodes s l (r_on v q r) n is = let h : None ≡ Some v = q in absurd cc
