-- Rules whose tests are settled by the tokens of a piece and the one behind it.
use Rattle.std.proofs.Common.{◌≡◌, refl, ap, ℕ, zero, suc, ◌<◌, ◌≤◌, List, [], ◌∷◌, ◌++◌, arith, sym, ◌∙◌, inl, inr}
use Rattle.std.specs.Prelude.{Bool, true, false, ◌&&◌, not, Option, Some, None, ◌⊎◌}
use Rattle.grammar.specs.Rule.{Rule, seq, around, alt, look, choose, opt, must, rep, has, Source, Table, Unlike, Loop, outside, within, Derives, d_done, d_mark, d_word, d_ref, d_deep, d_again, d_rep, d_seq, d_around, d_left, d_right, d_seen, d_unseen, d_chosen, d_unchosen, d_without, d_with, d_barred, d_taken, d_make}
use Rattle.grammar.specs.Sets.{Sets, nul, first}
use Rattle.grammar.specs.Tests.{Tests, targets, tests, IsTest, AllTests, arms}
use Rattle.grammar.specs.Check.{each, within_set, follows, admits, behind_part, each_of, onto, after, keeps, calm, told, settled}
use Rattle.grammar.proofs.Facts.{and_both, not_true, has_left, has_right, has_head, each_at, within_holds}
use Rattle.grammar.proofs.Spelled.{IsClear, IsGrammar, Covers}
use Rattle.grammar.proofs.Bounded.{Around_clear, forward}
use Rattle.grammar.proofs.Lookahead.{Comes, split_at, same_place, one_token, has_each_of, has_onto, calm_says, stays, same_verdict}

-- two token lists have the same classes from one place up to another
abbrev pub Same : {K B N : Type 0} → Source K B N → Source K B N → ℕ → ℕ → Type 0
Same t u i j = (n : ℕ) → i ≤ n → n < j → t.cls n ≡ u.cls n

pub unlike_moves : {K B N : Type 0} (t u : Source K B N) (cs ds : List ℕ) (i j : ℕ) → Same t u i (suc j) → Unlike t.cls cs ds i j → Unlike u.cls cs ds i j
unlike_moves t u cs ds i j m g h lt = rw (← m (suc i) (omega arith) (omega (arith, lt))) (g (rw (m i (omega arith) (omega (arith, lt))) h) lt)

pub split_tests : (Q : ((ℕ → ℕ) → ℕ → Bool) → Type 0) (ps qs : List ((ℕ → ℕ) → ℕ → Bool)) → AllTests Q (ps ++ qs) → AllTests Q ps × AllTests Q qs
split_tests Q [] qs h = (record {}, h)
split_tests Q (p ∷ ps) qs h = let x : _ = split_tests Q ps qs h.1 in ((h.0, x.0), x.1)

-- what may follow, here and there
pub admitted : (F G : Option (List ℕ)) (c : ℕ) → admits F G ≡ true → follows F c ≡ true → follows G c ≡ true
admitted F None c h k = refl
admitted None (Some ds) c h k = cc
admitted (Some cs) (Some ds) c h k = within_holds cs ds h c k

pub admitted_any : (G : Option (List ℕ)) → admits None G ≡ true → G ≡ None
admitted_any None h = refl
admitted_any (Some ds) h = cc

module _ {K B L : Type 0} (S : Sets L) (q : Option L) (s : Rule K B L) where
  pub follows_first : (F : Option (List ℕ)) (c : ℕ) → has (first S q s) c ≡ true → follows (behind_part S q s F) c ≡ true
  follows_first None c h = by (nul S q s)
    where
      by : (b : Bool) → follows (elim b [ true ↦ None | false ↦ Some (first S q s) ]) c ≡ true
      by true = refl
      by false = h
  follows_first (Some cs) c h = has_left (first S q s) _ c h

  pub follows_end : (F : Option (List ℕ)) (c : ℕ) → nul S q s ≡ true → follows F c ≡ true → follows (behind_part S q s F) c ≡ true
  follows_end None c e h = by (nul S q s) e
    where
      by : (b : Bool) → b ≡ true → follows (elim b [ true ↦ None | false ↦ Some (first S q s) ]) c ≡ true
      by true k = refl
      by false k = cc
  follows_end (Some cs) c e h = by (nul S q s) e
    where
      by : (b : Bool) → b ≡ true → has (first S q s ++ elim b [ true ↦ cs | false ↦ [] ]) c ≡ true
      by true k = has_right (first S q s) cs c h
      by false k = cc

  pub behind_any : nul S q s ≡ true → behind_part S q s None ≡ None
  behind_any e = by (nul S q s) e
    where
      by : (b : Bool) → b ≡ true → ◌≡◌ {A = Option (List ℕ)} (elim b [ true ↦ None | false ↦ Some (first S q s) ]) None
      by true k = refl
      by false k = cc

-- What the check says of a rule: its tests are told by the tokens of a piece and the next one, which is of F.
abbrev pub Fair : {K B L : Type 0} → Sets L → Tests L → (L → Bool) → Option ℕ → Option L → Option (List ℕ) → Rule K B L → Type 0
Fair S T C m q F r = (settled S T C m q F r ≡ true) × IsClear S q r × AllTests (IsTest T m) (tests r)

module _ {K B L : Type 0} (S : Sets L) (T : Tests L) (C : L → Bool) (m : Option ℕ) (q : Option L) (F : Option (List ℕ)) where
  pub fair_seq : (r s : Rule K B L) → Fair S T C m q F (seq r s) → Fair S T C m q (behind_part S q s F) r × Fair S T C m q F s
  fair_seq r s h =
      let b : _ = and_both (settled S T C m q (behind_part S q s F) r) (settled S T C m q F s) h.0 in
      let d : _ = split_tests (IsTest T m) (tests r) (tests s) h.2 in
      ((b.0, h.1.0, d.0), (b.1, h.1.1, d.1))

  pub fair_around : (cs ds : List ℕ) (r : Rule K B L) → Fair S T C m q F (around cs ds r) → Fair S T C m q (Some ds) r
  fair_around cs ds r h = (h.0, h.1.0, h.2)

  pub fair_alt : (r s : Rule K B L) → Fair S T C m q F (alt r s) → Fair S T C m q F r × Fair S T C m q F s
  fair_alt r s h =
      let b : _ = and_both (settled S T C m q F r) (settled S T C m q F s) h.0 in
      let d : _ = split_tests (IsTest T m) (tests r) (tests s) h.2 in
      ((b.0, h.1.0, d.0), (b.1, h.1.1, d.1))

  pub fair_look : (k : K) (cs ds : List ℕ) (v : B) (r s : Rule K B L) → Fair S T C m q F (look k cs ds v r s) → Fair S T C m q F r × Fair S T C m q F s
  fair_look k cs ds v r s h =
      let b : _ = and_both (settled S T C m q F r) (settled S T C m q F s) h.0 in
      let d : _ = split_tests (IsTest T m) (tests r) (tests s) h.2 in
      ((b.0, h.1.0, d.0), (b.1, h.1.1, d.1))

  pub fair_choose : (p : (ℕ → ℕ) → ℕ → Bool) (r s : Rule K B L) → Fair S T C m q F (choose p r s) → Fair S T C m q F r × Fair S T C m q F s × (told S T m q F r s ≡ true) × IsTest T m p
  fair_choose p r s h =
      let a : _ = and_both (told S T m q F r s) (settled S T C m q F r && settled S T C m q F s) h.0 in
      let b : _ = and_both (settled S T C m q F r) (settled S T C m q F s) a.1 in
      let d : _ = split_tests (IsTest T m) (tests r) (tests s) h.2.1 in
      ((b.0, h.1.0, d.0), (b.1, h.1.1, d.1), a.0, h.2.0)

  -- neither part of a choice is empty
  pub told_parts : (st : Option ℕ) (r s : Rule K B L) → told S T st q F r s ≡ true → (nul S q r ≡ false) × (nul S q s ≡ false)
  told_parts None r s h = cc
  told_parts (Some a) r s h =
      let w : _ = and_both (not (nul S q r) && not (nul S q s)) (has T.states a && (calm T F (after T q r a) && calm T F (after T q s a))) h in
      let y : _ = and_both (not (nul S q r)) (not (nul S q s)) w.0 in
      (not_true (nul S q r) y.0, not_true (nul S q s) y.1)

  pub fair_opt : (r : Rule K B L) → Fair S T C m q F (opt r) → Fair S T C m q F r
  fair_opt r h = (h.0, h.1.0, h.2)

  pub fair_must : (cs : List ℕ) (r : Rule K B L) → Fair S T C m q F (must cs r) → Fair S T C m q F r × (has cs zero ≡ false)
  fair_must cs r h = let b : _ = and_both (not (has cs zero)) (settled S T C m q F r) h.0 in ((b.1, h.1.0, h.2), not_true (has cs zero) b.0)

  pub fair_rep : (l : L) (r : Rule K B L) → Fair S T C m q F (rep l r) → Fair S T C m (Some l) (T.follow l) r × (admits F (T.follow l) ≡ true) × (keeps T (Some l) l r ≡ true) × Covers S (Some l) l r
  fair_rep l r h =
      let a : _ = and_both (admits F (T.follow l)) (keeps T (Some l) l r && settled S T C m (Some l) (T.follow l) r) h.0 in
      let b : _ = and_both (keeps T (Some l) l r) (settled S T C m (Some l) (T.follow l) r) a.1 in
      ((b.1, h.1.0, h.2), a.0, b.0, h.1.1)

-- the same of the loop around, where there is one
abbrev pub Fair_loop : {K B L : Type 0} → Sets L → Tests L → (L → Bool) → Option ℕ → Loop K B L → Option L → Type 0
Fair_loop S T C m outside q = record {}
Fair_loop S T C m (within l r) None = record { no : zero ≡ suc zero }
Fair_loop S T C m (within l r) (Some q) = Fair S T C m (Some q) (T.follow q) r × (keeps T (Some q) q r ≡ true) × Covers S (Some q) q r × (q ≡ l)

pub clear_loop : {K B L N : Type 0} (t : Source K B N) (S : Sets L) (table : Table K B L) (G : IsGrammar S table) (T : Tests L) (C : L → Bool) (m : Option ℕ) (c : Loop K B L) (q : Option L) → Fair_loop S T C m c q → Around_clear t table S G c q
clear_loop t S table G T C m outside q h = record {}
clear_loop t S table G T C m (within l r) None h = absurd (omega (arith, h.no))
clear_loop t S table G T C m (within l r) (Some q) h = (ap (λ x. Some x) h.3, rw h.3 at h.0.1, rw h.3 at h.2)

module _ {K B L : Type 0} (S : Sets L) (table : Table K B L) (G : IsGrammar S table) (T : Tests L) (C : L → Bool) (steady : each (λ a. within_set (targets (arms T.automaton a)) T.states) T.states ≡ true)
    (all_fair : (l : L) → C l ≡ true → Fair S T C (T.start l) None (T.follow l) (table l)) (all_kept : (l : L) → C l ≡ true → keeps T None l (table l) ≡ true) where
  module _ {N : Type 0} (t : Source K B N) where
    -- a test that comes through a piece without being settled is in a state that is declared
    comes_through : {c : Loop K B L} {r : Rule K B L} {xs : List N} {i j : ℕ} (m : Option ℕ) (q : Option L) (F : Option (List ℕ)) → Derives t table c r xs i j → Fair_loop S T C m c q → Fair S T C m q F r → (a b : ℕ) → has T.states a ≡ true → Comes T t.cls a i b j → has (after T q r a) b ≡ true
    comes_through m q F (d_done e s) f k a b h z = has_head a [] b (same_place T t.cls z s)
    comes_through m q F (d_mark {cs = cs} {i = i} g e s) f k a b h z = has_onto T cs a (t.cls i) b g (one_token T t.cls z s)
    comes_through m q F (d_word {cs = cs} {i = i} g e s) f k a b h z = has_onto T cs a (t.cls i) b g (one_token T t.cls z s)
    comes_through m q F (d_ref {l = l} d) f k a b h z =
        let p : _ = and_both (C l) (admits F (T.follow l)) k.0 in
        within_holds (after T None (table l) a) (T.after l a) (each_at (λ c. within_set (after T None (table l) c) (T.after l c)) T.states (all_kept l p.0) a h) b (comes_through (T.start l) None (T.follow l) d (record {}) (all_fair l p.0) a b h z)
    comes_through m q F (d_deep {l = l} d) f k a b h z =
        let p : _ = and_both (C l) (admits F (T.follow l)) k.0 in
        within_holds (after T None (table l) a) (T.after l a) (each_at (λ c. within_set (after T None (table l) c) (T.after l c)) T.states (all_kept l p.0) a h) b (comes_through (T.start l) None (T.follow l) d (record {}) (all_fair l p.0) a b h z)
    comes_through m None F (d_again d) f k a b h z = absurd (omega (arith, f.no))
    comes_through m (Some q) F (d_again {r = r} d) f k a b h z = within_holds (after T (Some q) r a) (T.after q a) (each_at (λ c. within_set (after T (Some q) r c) (T.after q c)) T.states f.1 a h) b (comes_through m (Some q) (T.follow q) d f f.0 a b h z)
    comes_through m q F (d_rep {l = l} {r = r} d) f k a b h z =
        let p : _ = fair_rep S T C m q F l r k in
        within_holds (after T (Some l) r a) (T.after l a) (each_at (λ c. within_set (after T (Some l) r c) (T.after l c)) T.states p.2 a h) b (comes_through m (Some l) (T.follow l) d (p.0, p.2, p.3, refl) p.0 a b h z)
    comes_through m q F (d_seq {r = r} {s = s} k' ys zs d e eq) f k a b h z =
        let p : _ = fair_seq S T C m q F r s k in
        let y : _ = split_at T t.cls z k' (forward t table S G d) (forward t table S G e) in
        has_each_of (λ c. after T q s c) (after T q r a) y.0 b (comes_through m q (behind_part S q s F) d f p.0 a y.0 h y.1) (comes_through m q F e f p.1 y.0 b (stays T t.cls steady y.1 h) y.2)
    comes_through m q F (d_around {cs = cs} {ds = ds} {r = r} {i = i} k' g d g' s) f k a b h z =
        let y : _ = split_at T t.cls z (suc i) (omega arith) (omega (arith, forward t table S G d, s)) in
        let w : _ = split_at T t.cls y.2 k' (forward t table S G d) (omega (arith, s)) in
        has_each_of (λ c. onto T ds c) (each_of (λ c. after T q r c) (onto T cs a)) w.0 b
        (has_each_of (λ c. after T q r c) (onto T cs a) y.0 w.0 (has_onto T cs a (t.cls i) y.0 g (one_token T t.cls y.1 refl)) (comes_through m q (Some ds) d f (fair_around S T C m q F cs ds r k) y.0 w.0 (stays T t.cls steady y.1 h) w.1))
        (has_onto T ds w.0 (t.cls k') b g' (one_token T t.cls w.2 s))
    comes_through m q F (d_left {r = r} {s = s} d) f k a b h z = has_left (after T q r a) (after T q s a) b (comes_through m q F d f (fair_alt S T C m q F r s k).0 a b h z)
    comes_through m q F (d_right {r = r} {s = s} d) f k a b h z = has_right (after T q r a) (after T q s a) b (comes_through m q F d f (fair_alt S T C m q F r s k).1 a b h z)
    comes_through m q F (d_seen {w = w} {b = v} {cs = cs} {ds = ds} {r = r} {s = s} {i = i} ys g g' d e) f k a b h z =
        let y : _ = split_at T t.cls z (suc i) (omega arith) (omega (arith, forward t table S G d)) in
        let x : _ = split_at T t.cls y.2 (suc (suc i)) (omega arith) (forward t table S G d) in
        has_left (each_of (λ c. after T q r c) (each_of (λ c. onto T ds c) (onto T cs a))) (after T q s a) b
        (has_each_of (λ c. after T q r c) (each_of (λ c. onto T ds c) (onto T cs a)) x.0 b
        (has_each_of (λ c. onto T ds c) (onto T cs a) y.0 x.0 (has_onto T cs a (t.cls i) y.0 g (one_token T t.cls y.1 refl)) (has_onto T ds y.0 (t.cls (suc i)) x.0 g' (one_token T t.cls x.1 refl)))
        (comes_through m q F d f (fair_look S T C m q F w cs ds v r s k).0 x.0 b (stays T t.cls steady x.1 (stays T t.cls steady y.1 h)) x.2))
    comes_through m q F (d_unseen {w = w} {b = v} {cs = cs} {ds = ds} {r = r} {s = s} g d) f k a b h z = has_right (each_of (λ c. after T q r c) (each_of (λ c. onto T ds c) (onto T cs a))) (after T q s a) b (comes_through m q F d f (fair_look S T C m q F w cs ds v r s k).1 a b h z)
    comes_through m q F (d_chosen {p = p} {r = r} {s = s} g d) f k a b h z = has_left (after T q r a) (after T q s a) b (comes_through m q F d f (fair_choose S T C m q F p r s k).0 a b h z)
    comes_through m q F (d_unchosen {p = p} {r = r} {s = s} g d) f k a b h z = has_right (after T q r a) (after T q s a) b (comes_through m q F d f (fair_choose S T C m q F p r s k).1 a b h z)
    comes_through m q F (d_without {r = r} e s) f k a b h z = has_head a (after T q r a) b (same_place T t.cls z s)
    comes_through m q F (d_with {r = r} d) f k a b h z = has_right (a ∷ []) (after T q r a) b (comes_through m q F d f (fair_opt S T C m q F r k) a b h z)
    comes_through m q F (d_barred {r = r} g e s) f k a b h z = has_head a (after T q r a) b (same_place T t.cls z s)
    comes_through m q F (d_taken {cs = cs} {r = r} d) f k a b h z = has_right (a ∷ []) (after T q r a) b (comes_through m q F d f (fair_must S T C m q F cs r k).0 a b h z)
    comes_through m q F (d_make ys d s) f k a b h z = comes_through m q F d f k a b h z

    -- a test that begins a piece of the rule says the same of each list that agrees up to and with the token behind the piece
    same_test : {c : Loop K B L} (r : Rule K B L) {xs : List N} {i j : ℕ} (a : ℕ) (p : (ℕ → ℕ) → ℕ → Bool) (q : Option L) (F : Option (List ℕ)) → Derives t table c r xs i j → Fair_loop S T C (Some a) c q → Fair S T C (Some a) q F r → IsTest T (Some a) p → has T.states a ≡ true → calm T F (after T q r a) ≡ true → follows F (t.cls j) ≡ true → (f : ℕ → ℕ) → ((n : ℕ) → i ≤ n → n ≤ j → t.cls n ≡ f n) → p t.cls i ≡ p f i
    same_test r {i = i} {j = j} a p q F d f k is h ca fo g ag = is.2 t.cls i ∙ (same_verdict T t.cls g is.0 a i j (forward t table S G d) ag (λ b z. calm_says T F (after T q r a) ca b (t.cls j) (comes_through (Some a) q F d f k a b h z) fo) ∙ sym (is.2 g i))

    pub same_choice : {c : Loop K B L} {xs : List N} {i j : ℕ} (m : Option ℕ) (q : Option L) (F : Option (List ℕ)) (p : (ℕ → ℕ) → ℕ → Bool) (r s : Rule K B L) → Derives t table c r xs i j ⊎ Derives t table c s xs i j → Fair_loop S T C m c q → Fair S T C m q F (choose p r s) → follows F (t.cls j) ≡ true → (f : ℕ → ℕ) → ((n : ℕ) → i ≤ n → n ≤ j → t.cls n ≡ f n) → p t.cls i ≡ p f i
    same_choice None q F p r s d f k fo g ag = let z : _ = fair_choose S T C None q F p r s k in cc
    same_choice (Some a) q F p r s d f k fo g ag =
        let z : _ = fair_choose S T C (Some a) q F p r s k in
        let w : _ = and_both (not (nul S q r) && not (nul S q s)) (has T.states a && (calm T F (after T q r a) && calm T F (after T q s a))) z.2 in
        let y : _ = and_both (has T.states a) (calm T F (after T q r a) && calm T F (after T q s a)) w.1 in
        let x : _ = and_both (calm T F (after T q r a)) (calm T F (after T q s a)) y.1 in
        elim d [
          | inl e ↦ same_test r a p q F e f z.0 z.3 y.0 x.0 fo g ag
          | inr e ↦ same_test s a p q F e f z.1 z.3 y.0 x.1 fo g ag
        ]
