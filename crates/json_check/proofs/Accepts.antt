-- What the grammar spells, the moves go through.
use Rattle.std.proofs.Common.{◌≡◌, ℕ, suc, ◌+◌, ◌-◌, ◌<◌, ◌≤◌, Bool, true, false, ◌⊎◌, inl, inr, List, [], ◌∷◌, ◌++◌, refl, sym, ap, ◌∙◌, subst, arith}
use Rattle.std.specs.Prelude.{max, Option, Some, None}
use Rattle.node_tree.specs.declared.node.Node.{Node}
use Rattle.node_tree.specs.declared.kind.Kind.{Kind}
use Rattle.node_tree.specs.declared.kind.Kind.TheVariants as kinds
use Rattle.node_tree.specs.Tree.{depth_of, depth_is, largest}
use Rattle.node_tree.proofs.Nodes.{made_kids}
use Rattle.grammar.specs.Rule.{outside, Derives}
use Rattle.json_check.proofs.Means.{Gives, Loops, level_holds}
use Rattle.json_tree.specs.declared.token.Token.{Token}
use Rattle.json_tree.specs.declared.token.Word.{Word}
use Rattle.json_tree.specs.declared.token.Word.TheVariants as w
use Rattle.json_tree.specs.Words.{class}
use Rattle.json_tree.specs.Table as t
use Rattle.json_tree.specs.Build.{token_at, end_of, node, leaf, source, depth_all}
use Rattle.json_tree.proofs.Depths.{node_depth, deepens}
use Rattle.json_check.specs.declared.nest.Container.{Container}
use Rattle.json_check.specs.declared.nest.Container.TheVariants.{Array, Object}
use Rattle.json_check.specs.declared.nest.Next.{Next}
use Rattle.json_check.specs.declared.nest.Next.TheVariants.{Value, ItemOrEnd, NameOrEnd, Name, Colon, CommaOrEnd}
use Rattle.json_check.specs.declared.nest.Move.TheVariants.{Stop, Go, Open, Close}
use Rattle.json_check.specs.fronts.Moves.{Standing, value_move, moved, opened, first_in, steps_in, behind_token}
use Rattle.json_check.proofs.Runs.{at, word_at, Runs, r_here, r_on, runs_on, is_text, word_is, scalar_is, name_is, no_dots, no_deep, next_in, starts, value_here, name_here}

pub leaf_depth : (x : Token) → depth_of (leaf x) ≡ 1
leaf_depth x = depth_is (leaf x) ∙ ap (λ (ns : List Node). 1 + depth_all ns) (made_kids _ _ [] x.span)

-- the levels of a container
abbrev pub part : Container → t.Level
part Array = t.Value
part Object = t.Entry

abbrev pub tail : Container → t.Level
tail Array = t.ValuesTail
tail Object = t.EntriesTail

abbrev pub left_of : Container → Word
left_of Array = w.LeftBracket
left_of Object = w.LeftBrace

abbrev pub right_of : Container → Word
right_of Array = w.RightBracket
right_of Object = w.RightBrace

-- behind a value a comma goes on, and the closing bracket closes, as it does where nothing stands before
pub comma_here : (c : Container) (o : List Container) (d : ℕ) → behind_token (at CommaOrEnd (c ∷ o) d) w.Comma ≡ Some (at (next_in c) (c ∷ o) d)
comma_here Array o d = refl
comma_here Object o d = refl

-- where a container may end
abbrev pub ends_in : Container → Bool → Next
ends_in c true = first_in c
ends_in c false = CommaOrEnd

pub close_here : (b : Bool) (c : Container) (o : List Container) (d : ℕ) → behind_token (at (ends_in c b) (c ∷ o) d) (right_of c) ≡ Some (at CommaOrEnd o (d - steps_in c))
close_here true Array o d = refl
close_here true Object o d = refl
close_here false Array o d = refl
close_here false Object o d = refl

-- how deep a part of a container stands, seen from where its own value does
abbrev pub part_depth : Container → ℕ
part_depth Array = 0
part_depth Object = 1

depth_left : (xs ys zs : List Node) → xs ≡ ys ++ zs → depth_all ys ≤ depth_all xs
depth_left xs ys zs e = rw e ((deepens []).left ys zs)

depth_right : (xs ys zs : List Node) → xs ≡ ys ++ zs → depth_all zs ≤ depth_all xs
depth_right xs ys zs e = rw e ((deepens []).right ys zs)

over_depth : (xs ys : List Node) (kind : Kind) (from to : ℕ) → xs ≡ node kind from to ys ∷ [] → 1 + depth_all ys ≤ depth_all xs
over_depth xs ys kind from to e = omega (arith, ap depth_all e, node_depth kind from to ys)

leaf_is_deep : (xs : List Node) (x : Token) → xs ≡ leaf x ∷ [] → 1 ≤ depth_all xs
leaf_is_deep xs x e = omega (arith, ap depth_all e, leaf_depth x)

module _ (ts : List Token) (text : (i : ℕ) → is_text (word_at ts i) ≡ true) where
  step : {s u t : Standing} {i j : ℕ} (x : Word) → word_at ts i ≡ x → behind_token s x ≡ Some u → Runs ts u (suc i) t j → Runs ts s i t j
  step {s = s} {u = u} x e h r = r_on u (ap (λ (y : Word). behind_token s y) e ∙ h) r

  -- what each level's pieces go through
  abbrev Goes : t.Level → List Node → ℕ → ℕ → Type 0
  Goes t.Values xs i j = (o : List Container) (d : ℕ) → depth_all xs + (d + 1) ≤ 500 → word_at ts j ≡ w.RightBracket → Runs ts (at ItemOrEnd (Array ∷ o) (d + 1)) i (at CommaOrEnd o d) (suc j)
  Goes t.ValuesTail xs i j = (o : List Container) (d : ℕ) → depth_all xs + (d + 1) ≤ 500 → word_at ts j ≡ w.RightBracket → Runs ts (at CommaOrEnd (Array ∷ o) (d + 1)) i (at CommaOrEnd o d) (suc j)
  Goes t.Entries xs i j = (o : List Container) (d : ℕ) → depth_all xs + (d + 1) ≤ 500 → word_at ts j ≡ w.RightBrace → Runs ts (at NameOrEnd (Object ∷ o) (d + 2)) i (at CommaOrEnd o d) (suc j)
  Goes t.EntriesTail xs i j = (o : List Container) (d : ℕ) → depth_all xs + (d + 1) ≤ 500 → word_at ts j ≡ w.RightBrace → Runs ts (at CommaOrEnd (Object ∷ o) (d + 2)) i (at CommaOrEnd o d) (suc j)
  Goes t.Entry xs i j = (b : Bool) (o : List Container) (d : ℕ) → depth_all xs + (d + 1) ≤ 500 → Runs ts (at (starts Object b) o (d + 2)) i (at CommaOrEnd o (d + 2)) j
  Goes t.Member xs i j = (b : Bool) (o : List Container) (d : ℕ) → depth_all xs + (d + 1) ≤ 500 → Runs ts (at (starts Object b) o (d + 2)) i (at CommaOrEnd o (d + 2)) j
  Goes t.Deep xs i j = ⊥
  Goes _ xs i j = (b : Bool) (o : List Container) (d : ℕ) → depth_all xs + d ≤ 500 → Runs ts (at (starts Array b) o d) i (at CommaOrEnd o d) j

  abbrev Row : Option t.Level → t.Row → t.Level → Type 0
  Row q r l = Gives (source ts) t.table Goes q r l

  close : (b : Bool) (c : Container) (o : List Container) (d i : ℕ) → word_at ts i ≡ right_of c → Runs ts (at (ends_in c b) (c ∷ o) (d + steps_in c)) i (at CommaOrEnd o d) (suc i)
  close b c o d i h =
      let back : (d + steps_in c) - steps_in c ≡ d = omega arith in
      step (right_of c) h (close_here b c o (d + steps_in c) ∙ ap (λ (n : ℕ). Some (at CommaOrEnd o n)) back) (r_here refl refl)

  value_goes : Row None (t.table t.Value) t.Value
  value_goes xs i j (inl (h, e, f)) b o d le =
      r_on (at CommaOrEnd o d) (value_here b o d (word_at ts i) (Go CommaOrEnd) (omega (arith, le, leaf_is_deep xs (token_at ts i) e)) (scalar_is (word_at ts i) h (text i)) (λ n. absurd cc)) (r_here refl (sym f))
  value_goes xs i j (inr (inl a)) b o d le = a b o d le
  value_goes xs i j (inr (inr (inl a))) b o d le = a b o d le
  value_goes xs i j (inr (inr (inr a))) b o d le = absurd a

  deep_goes : Row None (t.table t.Deep) t.Deep
  deep_goes xs i j (ys, (m, us, vs, (h, e, f), a, q), r) = no_deep (word_at ts i) h (text i)

  array_goes : Row None (t.table t.Array) t.Array
  array_goes xs i j (ys, (m, h, a, h', f), e) b o d le =
      let deep : 1 + depth_all ys ≤ depth_all xs = over_depth xs ys kinds.Array (token_at ts i).span.from (end_of ts j) e in
      let inner : Runs ts (at ItemOrEnd (Array ∷ o) (d + 1)) (suc i) (at CommaOrEnd o d) (suc m) = a o d (omega (arith, le, deep)) (word_is w.RightBracket (word_at ts m) h') in
      step w.LeftBracket (word_is w.LeftBracket (word_at ts i) h) (value_here b o d w.LeftBracket (Open Array) (omega (arith, le, deep)) refl (λ n. absurd cc)) (subst (λ (n : ℕ). Runs ts (at ItemOrEnd (Array ∷ o) (d + 1)) (suc i) (at CommaOrEnd o d) n) (sym f) inner)

  object_goes : Row None (t.table t.Object) t.Object
  object_goes xs i j (ys, (m, h, a, h', f), e) b o d le =
      let deep : 1 + depth_all ys ≤ depth_all xs = over_depth xs ys kinds.Object (token_at ts i).span.from (end_of ts j) e in
      let inner : Runs ts (at NameOrEnd (Object ∷ o) (d + 2)) (suc i) (at CommaOrEnd o d) (suc m) = a o d (omega (arith, le, deep)) (word_is w.RightBrace (word_at ts m) h') in
      step w.LeftBrace (word_is w.LeftBrace (word_at ts i) h) (value_here b o d w.LeftBrace (Open Object) (omega (arith, le, deep)) refl (λ n. absurd cc)) (subst (λ (n : ℕ). Runs ts (at NameOrEnd (Object ∷ o) (d + 2)) (suc i) (at CommaOrEnd o d) n) (sym f) inner)

  further_value : Row (Some t.ValuesTail) (t.further t.Value) t.ValuesTail
  further_value xs i j (inl (e, f)) o d le h = subst (λ (n : ℕ). Runs ts (at CommaOrEnd (Array ∷ o) (d + 1)) n (at CommaOrEnd o d) (suc j)) (sym f) (close false Array o d j h)
  further_value xs i j (inr (m, us, vs, (c, n, f), (m', ys, zs, a, l, e), q)) o d le h =
      let deep : depth_all vs ≤ depth_all xs = depth_right xs us vs q in
      step w.Comma (word_is w.Comma (word_at ts i) c) (comma_here Array o (d + 1))
      (subst (λ (n : ℕ). Runs ts (at Value (Array ∷ o) (d + 1)) n (at CommaOrEnd o d) (suc j)) f (runs_on (a false (Array ∷ o) (d + 1) (omega (arith, le, deep, depth_left vs ys zs e))) (l o d (omega (arith, le, deep, depth_right vs ys zs e)) h)))

  values_go : Row None (t.table t.Values) t.Values
  values_go xs i j (inl (e, f)) o d le h = subst (λ (n : ℕ). Runs ts (at ItemOrEnd (Array ∷ o) (d + 1)) n (at CommaOrEnd o d) (suc j)) (sym f) (close true Array o d j h)
  values_go xs i j (inr (m, ys, zs, a, l, e)) o d le h = runs_on (a true (Array ∷ o) (d + 1) (omega (arith, le, depth_left xs ys zs e))) (l o d (omega (arith, le, depth_right xs ys zs e)) h)

  further_entry : Row (Some t.EntriesTail) (t.further t.Entry) t.EntriesTail
  further_entry xs i j (inl (e, f)) o d le h = subst (λ (n : ℕ). Runs ts (at CommaOrEnd (Object ∷ o) (d + 2)) n (at CommaOrEnd o d) (suc j)) (sym f) (close false Object o d j h)
  further_entry xs i j (inr (m, us, vs, (c, n, f), (m', ys, zs, a, l, e), q)) o d le h =
      let deep : depth_all vs ≤ depth_all xs = depth_right xs us vs q in
      step w.Comma (word_is w.Comma (word_at ts i) c) (comma_here Object o (d + 2))
      (subst (λ (n : ℕ). Runs ts (at Name (Object ∷ o) (d + 2)) n (at CommaOrEnd o d) (suc j)) f (runs_on (a false (Object ∷ o) d (omega (arith, le, deep, depth_left vs ys zs e))) (l o d (omega (arith, le, deep, depth_right vs ys zs e)) h)))

  entries_go : Row None (t.table t.Entries) t.Entries
  entries_go xs i j (inl (e, f)) o d le h = subst (λ (n : ℕ). Runs ts (at NameOrEnd (Object ∷ o) (d + 2)) n (at CommaOrEnd o d) (suc j)) (sym f) (close true Object o d j h)
  entries_go xs i j (inr (m, ys, zs, a, l, e)) o d le h = runs_on (a true (Object ∷ o) d (omega (arith, le, depth_left xs ys zs e))) (l o d (omega (arith, le, depth_right xs ys zs e)) h)

  entry_goes : Row None (t.table t.Entry) t.Entry
  entry_goes xs i j (inl (h, e, f)) b o d le = absurd (no_dots (word_at ts i) h (text i))
  entry_goes xs i j (inr a) b o d le = a b o d le

  member_goes : Row None (t.table t.Member) t.Member
  member_goes xs i j (ys, (m, us, vs, (h, e, f), (m', as', bs, (c, n, g), a, q'), q), r) b o d le =
      let over : 1 + depth_all ys ≤ depth_all xs = over_depth xs ys kinds.Member (token_at ts i).span.from (end_of ts j) r in
      let first : 1 ≤ depth_all ys = omega (arith, depth_left ys us vs q, leaf_is_deep us (token_at ts i) e) in
      let inner : depth_all bs ≤ depth_all ys = omega (arith, depth_right ys us vs q, depth_right vs as' bs q') in
      step w.Str (name_is (word_at ts i) h (text i)) (name_here b o (d + 2) (omega (arith, le, over, first)))
      (subst (λ (n : ℕ). Runs ts (at Colon o (d + 2)) n (at CommaOrEnd o (d + 2)) j) f (step w.Colon (word_is w.Colon (word_at ts m) c) refl (subst (λ (n : ℕ). Runs ts (at Value o (d + 2)) n (at CommaOrEnd o (d + 2)) j) g (a false o (d + 2) (omega (arith, le, over, inner))))))

  rows : (l : t.Level) → Row None (t.table l) l
  rows t.Value = value_goes
  rows t.Array = array_goes
  rows t.Values = values_go
  rows t.ValuesTail = λ xs i j a. a
  rows t.Object = object_goes
  rows t.Entries = entries_go
  rows t.EntriesTail = λ xs i j a. a
  rows t.Entry = entry_goes
  rows t.Member = member_goes
  rows t.Deep = deep_goes

  loops : (l : t.Level) → Loops (source ts) t.table Goes (t.table l)
  loops t.Value = (tt, (tt, (tt, tt)))
  loops t.Array = tt
  loops t.Values = (tt, (further_value, (tt, (tt, tt))))
  loops t.ValuesTail = (further_value, (tt, (tt, tt)))
  loops t.Object = tt
  loops t.Entries = (tt, (further_entry, (tt, (tt, tt))))
  loops t.EntriesTail = (further_entry, (tt, (tt, tt)))
  loops t.Entry = (tt, tt)
  loops t.Member = (tt, (tt, tt))
  loops t.Deep = (tt, (tt, tt))

  -- the moves go through a value that is not too deep
  pub value_runs : (xs : List Node) (i j : ℕ) → Derives (source ts) t.table outside (t.table t.Value) xs i j → depth_all xs ≤ 499 → Runs ts (at Value [] 1) i (at CommaOrEnd [] 1) j
  value_runs xs i j a le = level_holds (source ts) t.table Goes rows loops t.Value xs i j a false [] 1 (omega (arith, le))
