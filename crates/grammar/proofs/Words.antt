-- The words that a table gives are spelled by its rules.
use Rattle.std.proofs.Common.{◌≡◌, ◌≤◌, arith, ℕ, zero, suc, List, [], ◌∷◌, ◌++◌, refl, ap, sym, ◌∙◌, inl, inr}
use Rattle.std.specs.Prelude.{Bool, true, false, Option, Some, None, ◌⊎◌}
use Rattle.grammar.specs.Rule.{Rule, done, mark, word, ref, deep, again, seq, around, alt, look, choose, opt, must, rep, make, has, Source, Table, Loop, outside, within, Derives, d_done, d_mark, d_word, d_ref, d_deep, d_again, d_rep, d_seq, d_around, d_left, d_right, d_seen, d_unseen, d_chosen, d_unchosen, d_without, d_with, d_barred, d_taken, d_make}
use Rattle.grammar.specs.Reader.{◌>>=◌}
use Rattle.grammar.specs.Tests.{Move, say, go, Tests, step, verdict, judge, is_same, says, tests, IsTest, AllTests, Declared}
use Rattle.grammar.specs.Check.{said, some_word, some_level, hollow, hollow_level, begun, begun_level}
use Rattle.grammar.proofs.Facts.{true_false, not_true, bind_some, chosen, none_some, no_some, has_head}
use Rattle.grammar.proofs.Lookahead.{then}
use Rattle.grammar.proofs.Fair.{split_tests}

-- the classes stand from i up to e
abbrev pub Match : {K B N : Type 0} → Source K B N → ℕ → List ℕ → ℕ → Type 0
Match u i [] e = i ≡ e
Match u i (c ∷ w) e = (u.cls i ≡ c) × Match u (suc i) w e

split : {K B N : Type 0} (u : Source K B N) (i : ℕ) (w w' : List ℕ) (e : ℕ) → Match u i (w ++ w') e → (k : ℕ) × Match u i w k × Match u k w' e
split u i [] w' e m = (i, refl, m)
split u i (c ∷ w) w' e m = let s : _ = split u (suc i) w w' e m.1 in (s.0, (m.0, s.1), s.2)

rematch : {K B N : Type 0} (u : Source K B N) (i : ℕ) (w w' : List ℕ) (e : ℕ) → Some w ≡ Some w' → Match u i w' e → Match u i w e
rematch u i w w' e h m = rw (same h) m
  where
    same : Some w ≡ Some w' → w ≡ w'
    same h = cc

-- two parts in a row
pub in_row : {K B L N : Type 0} {t : Source K B N} {table : Table K B L} {c : Loop K B L} {r s : Rule K B L} {i j : ℕ} (k : ℕ) (ys zs : List N) → Derives t table c r ys i k → Derives t table c s zs k j → (xs : List N) × Derives t table c (seq r s) xs i j
in_row k ys zs d e = (ys ++ zs, d_seq k ys zs d e refl)

-- what the choices of `some_word`, `hollow` and `begun` say
first_found : (o p : Option (List ℕ)) (w : List ℕ) → ◌≡◌ {A = Option (List ℕ)} (elim o [ Some v ↦ Some v | None ↦ p ]) (Some w) → (o ≡ Some w) ⊎ (p ≡ Some w)
first_found (Some v) p w h = inl h
first_found None p w h = inr h

found_behind : (o : Option (List ℕ)) (b : Bool) (p : Option (List ℕ)) (w : List ℕ) → ◌≡◌ {A = Option (List ℕ)} (elim o [ Some v ↦ Some v | None ↦ elim b [ true ↦ p | false ↦ None ] ]) (Some w) → (o ≡ Some w) ⊎ ((b ≡ true) × (p ≡ Some w))
found_behind (Some v) b p w h = inl h
found_behind None true p w h = inr (refl, h)
found_behind None false p w h = cc

found_by : (b : Bool) (p q : Option (List ℕ)) (w : List ℕ) → ◌≡◌ {A = Option (List ℕ)} (elim b [ true ↦ p | false ↦ q ]) (Some w) → ((b ≡ true) × (p ≡ Some w)) ⊎ ((b ≡ false) × (q ≡ Some w))
found_by true p q w h = inl (refl, h)
found_by false p q w h = inr (refl, h)

both_hollow : (u v : Bool) → ◌≡◌ {A = Bool} (elim u [ true ↦ v | false ↦ false ]) true → (u ≡ true) × (v ≡ true)
both_hollow true v h = (refl, h)
both_hollow false v h = cc

either_hollow : (u v : Bool) → ◌≡◌ {A = Bool} (elim u [ true ↦ true | false ↦ v ]) true → (u ≡ true) ⊎ (v ≡ true)
either_hollow true v h = inl refl
either_hollow false v h = inr h

-- a word that is taken is one of which the test says this
said_word : (J : Bool → List ℕ → Bool) (b : Bool) (o : Option (List ℕ)) (w : List ℕ) → said J b o ≡ Some w → (o ≡ Some w) × (J b w ≡ true)
said_word J b None w h = no_some w h
said_word J b (Some v) w h = by (J b v) refl h
  where
    same : Some v ≡ Some w → v ≡ w
    same e = cc

    by : (u : Bool) → J b v ≡ u → ◌≡◌ {A = Option (List ℕ)} (elim u [ true ↦ Some v | false ↦ None ]) (Some w) → (Some v ≡ Some w) × (J b w ≡ true)
    by true e k = (k, rw (← same k) e)
    by false e k = cc

-- what a word tells of a test holds of each list that begins with it
judge_holds : {K B N L : Type 0} (T : Tests L) (u : Source K B N) (n n' a : ℕ) (w : List ℕ) (i e : ℕ) (b : Bool) → n ≤ n' → judge T.automaton n a w ≡ Some b → Match u i w e → verdict T.automaton n' a u.cls i ≡ b
unfolding verdict
judge_holds T u zero n' a w i e b le h m = no_some b h
judge_holds T u (suc n) zero a w i e b le h m = absurd (omega arith)
judge_holds T u (suc n) (suc n') a [] i e b le h m = no_some b h
judge_holds T u (suc n) (suc n') a (c ∷ w) i e b le h m = ap (λ d. then T.automaton n' u.cls i (step T.automaton a d)) m.0 ∙ by (λ a' k. judge_holds T u n n' a' w (suc i) e b (omega arith) k m.1) (step T.automaton a c) h
  where
    same : (d : Bool) → Some d ≡ Some b → d ≡ b
    same d k = cc

    by : ((a' : ℕ) → judge T.automaton n a' w ≡ Some b → verdict T.automaton n' a' u.cls (suc i) ≡ b) → (m : Move) → ◌≡◌ {A = Option Bool} (elim m [ say d ↦ Some d | go a' ↦ judge T.automaton n a' w ]) (Some b) → then T.automaton n' u.cls i m ≡ b
    by rest (say d) k = same d k
    by rest (go a') k = rest a' k

pub says_holds : {K B N L : Type 0} (T : Tests L) (st : Option ℕ) (p : (ℕ → ℕ) → ℕ → Bool) → IsTest T st p → (b : Bool) (w : List ℕ) → says T.automaton st b w ≡ true → (u : Source K B N) (i e : ℕ) → Match u i w e → p u.cls i ≡ b
says_holds T None p is b w h u i e m = cc
says_holds T (Some a) p is b w h u i e m = is.2 u.cls i ∙ judge_holds T u T.automaton.most is.0 a w i e b is.1 (told b (judge T.automaton T.automaton.most a w) h) m
  where
    told : (b : Bool) (o : Option Bool) → is_same b o ≡ true → o ≡ Some b
    told b None k = cc
    told true (Some true) k = refl
    told true (Some false) k = cc
    told false (Some true) k = cc
    told false (Some false) k = refl

module _ {K B L : Type 0} (N : Type 0) (table : Table K B L) where
  unfoldable pub WordOf : Loop K B L → Rule K B L → List ℕ → Type 0
  WordOf c r w = (u : Source K B N) (i e : ℕ) → Match u i w e → (ys : List N) × Derives u table c r ys i e

  unfoldable pub Empty : Loop K B L → Rule K B L → ℕ → Type 0
  Empty c r x = (u : Source K B N) (i : ℕ) → u.cls i ≡ x → (ys : List N) × Derives u table c r ys i i

  pub hollow_sound : (E : L → ℕ → Bool) → ((l : L) (x : ℕ) → E l x ≡ true → Empty outside (table l) x) → (r : Rule K B L) (c : Loop K B L) (x : ℕ) → hollow E r x ≡ true → Empty c r x
  unfolding Empty
  hollow_sound E v done c x h u i at = ([], d_done refl refl)
  hollow_sound E v (mark cs) c x h u i at = cc
  hollow_sound E v (word k cs) c x h u i at = cc
  hollow_sound E v (ref l) c x h u i at = let y : _ = v l x h u i at in (y.0, d_ref y.1)
  hollow_sound E v (deep l) c x h u i at = let y : _ = v l x h u i at in (y.0, d_deep y.1)
  hollow_sound E v again c x h u i at = cc
  hollow_sound E v (seq r s) c x h u i at =
      let p : _ = both_hollow (hollow E r x) (hollow E s x) h in
      let y : _ = hollow_sound E v r c x p.0 u i at in
      let z : _ = hollow_sound E v s c x p.1 u i at in
      in_row i y.0 z.0 y.1 z.1
  hollow_sound E v (around cs ds r) c x h u i at = cc
  hollow_sound E v (alt r s) c x h u i at = elim (either_hollow (hollow E r x) (hollow E s x) h) [
    | inl p ↦ let y : _ = hollow_sound E v r c x p u i at in (y.0, d_left y.1)
    | inr p ↦ let y : _ = hollow_sound E v s c x p u i at in (y.0, d_right y.1)
  ]
  hollow_sound E v (look k cs ds b r s) c x h u i at = cc
  hollow_sound E v (choose p r s) c x h u i at = cc
  hollow_sound E v (must cs r) c x h u i at = ([], d_barred (rw at (not_true (has cs x) h)) refl refl)
  hollow_sound E v (opt r) c x h u i at = ([], d_without refl refl)
  hollow_sound E v (rep l r) c x h u i at = let y : _ = hollow_sound E v r (within l r) x h u i at in (y.0, d_rep y.1)
  hollow_sound E v (make b r) c x h u i at = let y : _ = hollow_sound E v r c x h u i at in (u.build b i i y.0, d_make y.0 y.1 refl)

-- J tells what the tests say that Q is known of.
module _ {K B L : Type 0} (N : Type 0) (table : Table K B L) (J : Bool → List ℕ → Bool) (Q : ((ℕ → ℕ) → ℕ → Bool) → Type 0) (js : (p : (ℕ → ℕ) → ℕ → Bool) → Q p → (b : Bool) (w : List ℕ) → J b w ≡ true → (u : Source K B N) (i e : ℕ) → Match u i w e → p u.cls i ≡ b) where
  pub some_sound : (V : L → Option (List ℕ)) → ((l : L) (w : List ℕ) → V l ≡ Some w → WordOf N table outside (table l) w) → (r : Rule K B L) (a : Option (List ℕ)) (c : Loop K B L) → ((w : List ℕ) → a ≡ Some w → WordOf N table c again w) → AllTests Q (tests r) → (w : List ℕ) → some_word J V a r ≡ Some w → WordOf N table c r w
  unfolding WordOf
  some_sound V v done a c g ts w h u i e m = ([], d_done refl (rematch u i [] w e h m))
  some_sound V v (mark []) a c g ts w h u i e m = absurd (none_some w h)
  some_sound V v (mark (d ∷ ds)) a c g ts w h u i e m = let n : Match u i (d ∷ []) e = rematch u i (d ∷ []) w e h m in ([], d_mark (has_head d ds (u.cls i) n.0) refl (sym n.1))
  some_sound V v (word k []) a c g ts w h u i e m = absurd (none_some w h)
  some_sound V v (word k (d ∷ ds)) a c g ts w h u i e m = let n : Match u i (d ∷ []) e = rematch u i (d ∷ []) w e h m in (u.leaf k i ∷ [], d_word (has_head d ds (u.cls i) n.0) refl (sym n.1))
  some_sound V v (ref l) a c g ts w h u i e m = let x : _ = v l w h u i e m in (x.0, d_ref x.1)
  some_sound V v (deep l) a c g ts w h u i e m = let x : _ = v l w h u i e m in (x.0, d_deep x.1)
  some_sound V v again a c g ts w h u i e m = g w h u i e m
  some_sound V v (seq r s) a c g ts w h u i e m =
      let p : _ = bind_some (some_word J V a r) (λ v'. some_word J V a s >>= λ w'. Some (v' ++ w')) w h in
      let q : _ = bind_some (some_word J V a s) (λ w'. Some (p.0 ++ w')) w p.2 in
      let n : _ = split u i p.0 q.0 e (rematch u i (p.0 ++ q.0) w e q.2 m) in
      let d : _ = split_tests Q (tests r) (tests s) ts in
      let x : _ = some_sound V v r a c g d.0 p.0 p.1 u i n.0 n.1 in
      let y : _ = some_sound V v s a c g d.1 q.0 q.1 u n.0 e n.2 in
      in_row n.0 x.0 y.0 x.1 y.1
  some_sound V v (around [] ds r) a c g ts w h u i e m = absurd (none_some w h)
  some_sound V v (around (x ∷ cs) [] r) a c g ts w h u i e m = absurd (none_some w h)
  some_sound V v (around (x ∷ cs) (y ∷ ds) r) a c g ts w h u i e m =
      let p : _ = bind_some (some_word J V a r) (λ v'. Some (x ∷ (v' ++ (y ∷ [])))) w h in
      let m' : Match u i (x ∷ (p.0 ++ (y ∷ []))) e = rematch u i (x ∷ (p.0 ++ (y ∷ []))) w e p.2 m in
      let n : _ = split u (suc i) p.0 (y ∷ []) e m'.1 in
      let z : _ = some_sound V v r a c g ts p.0 p.1 u (suc i) n.0 n.1 in
      (z.0, d_around n.0 (has_head x cs (u.cls i) m'.0) z.1 (has_head y ds (u.cls n.0) n.2.0) (sym n.2.1))
  some_sound V v (alt r s) a c g ts w h u i e m = elim (first_found (some_word J V a r) (some_word J V a s) w h) [
    | inl p ↦ let x : _ = some_sound V v r a c g (split_tests Q (tests r) (tests s) ts).0 w p u i e m in (x.0, d_left x.1)
    | inr p ↦ let x : _ = some_sound V v s a c g (split_tests Q (tests r) (tests s) ts).1 w p u i e m in (x.0, d_right x.1)
  ]
  some_sound V v (look k [] ds b r s) a c g ts w h u i e m = absurd (none_some w h)
  some_sound V v (look k (x ∷ cs) [] b r s) a c g ts w h u i e m = absurd (none_some w h)
  some_sound V v (look k (x ∷ cs) (y ∷ ds) b r s) a c g ts w h u i e m =
      let p : _ = bind_some (some_word J V a r) (λ v'. Some (x ∷ (y ∷ v'))) w h in
      let m' : Match u i (x ∷ (y ∷ p.0)) e = rematch u i (x ∷ (y ∷ p.0)) w e p.2 m in
      let z : _ = some_sound V v r a c g (split_tests Q (tests r) (tests s) ts).0 p.0 p.1 u (suc (suc i)) e m'.1.1 in
      (u.build b i e (u.leaf k i ∷ z.0), d_seen z.0 (has_head x cs (u.cls i) m'.0) (has_head y ds (u.cls (suc i)) m'.1.0) z.1 refl)
  some_sound V v (choose p r s) a c g ts w h u i e m =
      let d : _ = split_tests Q (tests r) (tests s) ts.1 in
      elim (first_found (said J false (some_word J V a s)) (said J true (some_word J V a r)) w h) [
        | inl o ↦
            let k : _ = said_word J false (some_word J V a s) w o in
            let x : _ = some_sound V v s a c g d.1 w k.0 u i e m in
            (x.0, d_unchosen (js p ts.0 false w k.1 u i e m) x.1)
        | inr o ↦
            let k : _ = said_word J true (some_word J V a r) w o in
            let x : _ = some_sound V v r a c g d.0 w k.0 u i e m in
            (x.0, d_chosen (js p ts.0 true w k.1 u i e m) x.1)
      ]
  some_sound V v (must cs r) a c g ts w h u i e m = let x : _ = some_sound V v r a c g ts w h u i e m in (x.0, d_taken x.1)
  some_sound V v (opt r) a c g ts w h u i e m = ([], d_without refl (rematch u i [] w e h m))
  some_sound V v (rep l r) a c g ts w h u i e m = let x : _ = some_sound V v r None (within l r) (λ w' n. absurd (none_some w' n)) ts w h u i e m in (x.0, d_rep x.1)
  some_sound V v (make b r) a c g ts w h u i e m = let x : _ = some_sound V v r a c g ts w h u i e m in (u.build b i e x.0, d_make x.0 x.1 refl)

  pub begun_sound : (V : L → Option (List ℕ)) (W : L → ℕ → Option (List ℕ)) (E : L → ℕ → Bool) → ((l : L) (w : List ℕ) → V l ≡ Some w → WordOf N table outside (table l) w) → ((l : L) (x : ℕ) (w : List ℕ) → W l x ≡ Some w → WordOf N table outside (table l) (x ∷ w)) → ((l : L) (x : ℕ) → E l x ≡ true → Empty N table outside (table l) x)
      → (r : Rule K B L) (a : Option (List ℕ)) (c : Loop K B L) → ((w : List ℕ) → a ≡ Some w → WordOf N table c again w) → AllTests Q (tests r) → (x : ℕ) (w : List ℕ) → begun J V W E a r x ≡ Some w → WordOf N table c r (x ∷ w)
  unfolding WordOf Empty
  begun_sound V W E v b e' done a c g ts x w h u i e m = absurd (none_some w h)
  begun_sound V W E v b e' (mark cs) a c g ts x w h u i e m = elim (chosen (has cs x) (Some []) None (Some w) h) [
    | inl p ↦ let n : Match u (suc i) [] e = rematch u (suc i) [] w e p.1 m.1 in ([], d_mark (rw m.0 p.0) refl (sym n))
    | inr p ↦ absurd (none_some w p.1)
  ]
  begun_sound V W E v b e' (word k cs) a c g ts x w h u i e m = elim (chosen (has cs x) (Some []) None (Some w) h) [
    | inl p ↦ let n : Match u (suc i) [] e = rematch u (suc i) [] w e p.1 m.1 in (u.leaf k i ∷ [], d_word (rw m.0 p.0) refl (sym n))
    | inr p ↦ absurd (none_some w p.1)
  ]
  begun_sound V W E v b e' (ref l) a c g ts x w h u i e m = let y : _ = b l x w h u i e m in (y.0, d_ref y.1)
  begun_sound V W E v b e' (deep l) a c g ts x w h u i e m = let y : _ = b l x w h u i e m in (y.0, d_deep y.1)
  begun_sound V W E v b e' again a c g ts x w h u i e m = absurd (none_some w h)
  begun_sound V W E v b e' (seq r s) a c g ts x w h u i e m = elim (found_behind (begun J V W E a r x >>= λ v'. some_word J V a s >>= λ w'. Some (v' ++ w')) (hollow E r x) (begun J V W E a s x) w h) [
    | inl o ↦
        let p : _ = bind_some (begun J V W E a r x) (λ v'. some_word J V a s >>= λ w'. Some (v' ++ w')) w o in
        let q : _ = bind_some (some_word J V a s) (λ w'. Some (p.0 ++ w')) w p.2 in
        let n : _ = split u (suc i) p.0 q.0 e (rematch u (suc i) (p.0 ++ q.0) w e q.2 m.1) in
        let d : _ = split_tests Q (tests r) (tests s) ts in
        let y : _ = begun_sound V W E v b e' r a c g d.0 x p.0 p.1 u i n.0 (m.0, n.1) in
        let z : _ = some_sound V v s a c g d.1 q.0 q.1 u n.0 e n.2 in
        in_row n.0 y.0 z.0 y.1 z.1
    | inr o ↦
        let y : _ = hollow_sound N table E e' r c x o.0 u i m.0 in
        let z : _ = begun_sound V W E v b e' s a c g (split_tests Q (tests r) (tests s) ts).1 x w o.1 u i e m in
        in_row i y.0 z.0 y.1 z.1
  ]
  begun_sound V W E v b e' (around cs [] r) a c g ts x w h u i e m = absurd (none_some w h)
  begun_sound V W E v b e' (around cs (d ∷ ds) r) a c g ts x w h u i e m = elim (found_by (has cs x) (some_word J V a r >>= λ v'. Some (v' ++ (d ∷ []))) None w h) [
    | inl o ↦
        let p : _ = bind_some (some_word J V a r) (λ v'. Some (v' ++ (d ∷ []))) w o.1 in
        let n : _ = split u (suc i) p.0 (d ∷ []) e (rematch u (suc i) (p.0 ++ (d ∷ [])) w e p.2 m.1) in
        let z : _ = some_sound V v r a c g ts p.0 p.1 u (suc i) n.0 n.1 in
        (z.0, d_around n.0 (rw m.0 o.0) z.1 (has_head d ds (u.cls n.0) n.2.0) (sym n.2.1))
    | inr o ↦ absurd (none_some w o.1)
  ]
  begun_sound V W E v b e' (alt r s) a c g ts x w h u i e m = elim (first_found (begun J V W E a r x) (begun J V W E a s x) w h) [
    | inl p ↦ let y : _ = begun_sound V W E v b e' r a c g (split_tests Q (tests r) (tests s) ts).0 x w p u i e m in (y.0, d_left y.1)
    | inr p ↦ let y : _ = begun_sound V W E v b e' s a c g (split_tests Q (tests r) (tests s) ts).1 x w p u i e m in (y.0, d_right y.1)
  ]
  begun_sound V W E v b e' (look k cs [] b' r s) a c g ts x w h u i e m = absurd (none_some w h)
  begun_sound V W E v b e' (look k cs (d ∷ ds) b' r s) a c g ts x w h u i e m = elim (found_by (has cs x) (some_word J V a r >>= λ v'. Some (d ∷ v')) (begun J V W E a s x) w h) [
    | inl o ↦
        let p : _ = bind_some (some_word J V a r) (λ v'. Some (d ∷ v')) w o.1 in
        let n : Match u (suc i) (d ∷ p.0) e = rematch u (suc i) (d ∷ p.0) w e p.2 m.1 in
        let z : _ = some_sound V v r a c g (split_tests Q (tests r) (tests s) ts).0 p.0 p.1 u (suc (suc i)) e n.1 in
        (u.build b' i e (u.leaf k i ∷ z.0), d_seen z.0 (rw m.0 o.0) (has_head d ds (u.cls (suc i)) n.0) z.1 refl)
    | inr o ↦ let y : _ = begun_sound V W E v b e' s a c g (split_tests Q (tests r) (tests s) ts).1 x w o.1 u i e m in (y.0, d_unseen (λ is lt. true_false (has cs (u.cls i)) is (rw m.0 o.0)) y.1)
  ]
  begun_sound V W E v b e' (choose p r s) a c g ts x w h u i e m =
      let d : _ = split_tests Q (tests r) (tests s) ts.1 in
      elim (first_found (said (λ b' w'. J b' (x ∷ w')) false (begun J V W E a s x)) (said (λ b' w'. J b' (x ∷ w')) true (begun J V W E a r x)) w h) [
        | inl o ↦
            let k : _ = said_word (λ b' w'. J b' (x ∷ w')) false (begun J V W E a s x) w o in
            let y : _ = begun_sound V W E v b e' s a c g d.1 x w k.0 u i e m in
            (y.0, d_unchosen (js p ts.0 false (x ∷ w) k.1 u i e m) y.1)
        | inr o ↦
            let k : _ = said_word (λ b' w'. J b' (x ∷ w')) true (begun J V W E a r x) w o in
            let y : _ = begun_sound V W E v b e' r a c g d.0 x w k.0 u i e m in
            (y.0, d_chosen (js p ts.0 true (x ∷ w) k.1 u i e m) y.1)
      ]
  begun_sound V W E v b e' (must cs r) a c g ts x w h u i e m = let y : _ = begun_sound V W E v b e' r a c g ts x w h u i e m in (y.0, d_taken y.1)
  begun_sound V W E v b e' (opt r) a c g ts x w h u i e m = let y : _ = begun_sound V W E v b e' r a c g ts x w h u i e m in (y.0, d_with y.1)
  begun_sound V W E v b e' (rep l r) a c g ts x w h u i e m =
      let y : _ = begun_sound V W E v b e' r (some_word J V None r) (within l r) (λ w' n u' i' e'' m'. let z : _ = some_sound V v r None (within l r) (λ w'' n'. absurd (none_some w'' n')) ts w' n u' i' e'' m' in (z.0, d_again z.1)) ts x w h u i e m in (y.0, d_rep y.1)
  begun_sound V W E v b e' (make b' r) a c g ts x w h u i e m = let y : _ = begun_sound V W E v b e' r a c g ts x w h u i e m in (u.build b' i e y.0, d_make y.0 y.1 refl)

module _ {K B L : Type 0} (N : Type 0) (table : Table K B L) where
  pub hollow_levels : (h : ℕ) (l : L) (x : ℕ) → hollow_level table h l x ≡ true → Empty N table outside (table l) x
  hollow_levels zero l x h = cc
  hollow_levels (suc n) l x h = hollow_sound N table (hollow_level table n) (hollow_levels n) (table l) outside x h

  module _ (T : Tests L) (declared : (l : L) → Declared T l (table l)) where
    pub some_levels : (h : ℕ) (l : L) (w : List ℕ) → some_level T table h l ≡ Some w → WordOf N table outside (table l) w
    some_levels zero l w h = no_some w h
    some_levels (suc n) l w h = some_sound N table (says T.automaton (T.start l)) (IsTest T (T.start l)) (says_holds T (T.start l)) (some_level T table n) (some_levels n) (table l) None outside (λ w' e. no_some w' e) (declared l) w h

    pub begun_levels : (h : ℕ) (l : L) (x : ℕ) (w : List ℕ) → begun_level T table h l x ≡ Some w → WordOf N table outside (table l) (x ∷ w)
    begun_levels zero l x w h = no_some w h
    begun_levels (suc n) l x w h = begun_sound N table (says T.automaton (T.start l)) (IsTest T (T.start l)) (says_holds T (T.start l)) (some_level T table n) (begun_level T table n) (hollow_level table n) (some_levels n) (begun_levels n) (hollow_levels n) (table l) None outside (λ w' e. no_some w' e) (declared l) x w h
