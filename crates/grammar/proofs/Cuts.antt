-- Tokens behind a run don't matter: a source that is cut off where a token stands inside too many brackets has the same closed runs.
use Rattle.std.proofs.Common.{◌≡◌, ℕ, zero, suc, pred, ◌<◌, ◌≤◌, List, [], ◌∷◌, ◌++◌, refl, ap, arith, sym, ◌∙◌, inl, inr}
use Rattle.std.specs.Prelude.{Bool, true, false, cond, ◌&&◌, not, Option, Some, None, ◌⊎◌, ltb}
use Rattle.grammar.specs.Rule.{Rule, Source, Table, Grammar, Deepens, Unlike, Loop, outside, within, has, open_at, smaller, brackets_round, with_classes, IsPiece, IsRun, Derives, d_done, d_mark, d_word, d_ref, d_deep, d_again, d_rep, d_seq, d_around, d_left, d_right, d_seen, d_unseen, d_chosen, d_unchosen, d_without, d_with, d_barred, d_taken, d_make}
use Rattle.grammar.specs.Sets.{Sets, nul, first}
use Rattle.grammar.specs.Tests.{Tests, targets, arms, Declared, no_tests}
use Rattle.grammar.specs.Check.{Ranks, each, within_set, follows, admits, behind_part, keeps, passes, closes, closes_runs}
use Rattle.grammar.proofs.Facts.{and_both, less_or_same}
use Rattle.grammar.proofs.Checked.{is_grammar, fits, ranked}
use Rattle.grammar.proofs.Counts.{count_start, count_open, count_close, count_along, count_same, inside_open}
use Rattle.grammar.proofs.Theorem.{row, all_fair, all_kept, none_declared}
use Rattle.grammar.proofs.Spelled.{IsClear, IsGrammar, Covers}
use Rattle.grammar.proofs.Bounded.{forward, still, head, even}
use Rattle.grammar.proofs.Fair.{Same, Fair, Fair_loop, clear_loop, admitted, follows_first, follows_end, fair_seq, fair_around, fair_alt, fair_look, fair_choose, fair_opt, fair_must, fair_rep, same_choice}

-- Two sources tell the same of the tokens up to a place, and have the same class there.
pub record Alike {K B N : Type 0} (t u : Source K B N) (last : ℕ) : Type 0 where
  pub cls : (n : ℕ) → n ≤ last → t.cls n ≡ u.cls n
  pub leaf : (k : K) (n : ℕ) → n < last → t.leaf k n ≡ u.leaf k n
  pub build : (b : B) (i j : ℕ) (ys : List N) → i ≤ j → j ≤ last → t.build b i j ys ≡ u.build b i j ys

module _ {K B L N : Type 0} (S : Sets L) (table : Table K B L) (G : IsGrammar S table) (T : Tests L) (C : L → Bool) (steady : each (λ a. within_set (targets (arms T.automaton a)) T.states) T.states ≡ true)
    (all_fair : (l : L) → C l ≡ true → Fair S T C (T.start l) None (T.follow l) (table l)) (all_kept : (l : L) → C l ≡ true → keeps T None l (table l) ≡ true) (t u : Source K B N) (last : ℕ) (same : Alike t u last) where
  -- what may follow a first part does follow it
  next : {c : Loop K B L} {s : Rule K B L} {zs : List N} {k j : ℕ} (m : Option ℕ) (q : Option L) (F : Option (List ℕ)) → Derives t table c s zs k j → Fair_loop S T C m c q → Fair S T C m q F s → follows F (t.cls j) ≡ true → follows (behind_part S q s F) (t.cls k) ≡ true
  next {c = c} {s = s} {k = k} {j = j} m q F e f h fo = elim (less_or_same k j (forward t table S G e)) [
    | inl lt ↦ follows_first S q s F (t.cls k) (head t table S G e q (clear_loop t S table G T C m c q f) h.1 lt)
    | inr eq ↦ follows_end S q s F (t.cls k) (still t table S G e q (clear_loop t S table G T C m c q f) h.1 eq) (rw eq fo)
  ]

  -- A piece is one of the other source too.
  pub moved : {c : Loop K B L} {r : Rule K B L} {xs : List N} {i j : ℕ} (m : Option ℕ) (q : Option L) (F : Option (List ℕ)) → Derives t table c r xs i j → Fair_loop S T C m c q → Fair S T C m q F r → follows F (t.cls j) ≡ true → j ≤ last → Derives u table c r xs i j
  moved m q F (d_done e s) f h fo b = d_done e s
  moved m q F (d_mark {i = i} g e s) f h fo b = d_mark (rw (← same.cls i (omega (arith, s, b))) g) e s
  moved m q F (d_word {k = k} {i = i} g e s) f h fo b = d_word (rw (← same.cls i (omega (arith, s, b))) g) (e ∙ ap (λ (n : N). n ∷ []) (same.leaf k i (omega (arith, s, b)))) s
  moved m q F (d_ref {l = l} {j = j} d) f h fo b = let p : _ = and_both (C l) (admits F (T.follow l)) h.0 in d_ref (moved (T.start l) None (T.follow l) d (record {}) (all_fair l p.0) (admitted F (T.follow l) (t.cls j) p.1 fo) b)
  moved m q F (d_deep {l = l} {j = j} d) f h fo b = let p : _ = and_both (C l) (admits F (T.follow l)) h.0 in d_deep (moved (T.start l) None (T.follow l) d (record {}) (all_fair l p.0) (admitted F (T.follow l) (t.cls j) p.1 fo) b)
  moved m None F (d_again d) f h fo b = absurd (omega (arith, f.no))
  moved m (Some q) F (d_again {j = j} d) f h fo b = d_again (moved m (Some q) (T.follow q) d f f.0 (admitted F (T.follow q) (t.cls j) h.0 fo) b)
  moved m q F (d_rep {l = l} {r = r} {j = j} d) f h fo b = let p : _ = fair_rep S T C m q F l r h in d_rep (moved m (Some l) (T.follow l) d (p.0, p.2, p.3, refl) p.0 (admitted F (T.follow l) (t.cls j) p.1 fo) b)
  moved m q F (d_seq {r = r} {s = s} k ys zs d e eq) f h fo b =
      let p : _ = fair_seq S T C m q F r s h in
      let x : _ = forward t table S G d in
      let y : _ = forward t table S G e in
      d_seq k ys zs (moved m q (behind_part S q s F) d f p.0 (next m q F e f p.1 fo) (omega (arith, y, b))) (moved m q F e f p.1 fo b) eq
  moved m q F (d_around {cs = cs} {ds = ds} {r = r} {i = i} k g d g' s) f h fo b =
      let x : _ = forward t table S G d in
      d_around k (rw (← same.cls i (omega (arith, s, b, x))) g) (moved m q (Some ds) d f (fair_around S T C m q F cs ds r h) g' (omega (arith, s, b))) (rw (← same.cls k (omega (arith, s, b))) g') s
  moved m q F (d_left {r = r} {s = s} d) f h fo b = d_left (moved m q F d f (fair_alt S T C m q F r s h).0 fo b)
  moved m q F (d_right {r = r} {s = s} d) f h fo b = d_right (moved m q F d f (fair_alt S T C m q F r s h).1 fo b)
  moved m q F (d_seen {w = w} {b = v} {cs = cs} {ds = ds} {r = r} {s = s} {i = i} {j = j} ys g g' d e) f h fo b =
      let x : _ = forward t table S G d in
      d_seen ys (rw (← same.cls i (omega (arith, x, b))) g) (rw (← same.cls (suc i) (omega (arith, x, b))) g') (moved m q F d f (fair_look S T C m q F w cs ds v r s h).0 fo b)
      (e ∙ (ap (λ (n : N). t.build v i j (n ∷ ys)) (same.leaf w i (omega (arith, x, b))) ∙ same.build v i j (u.leaf w i ∷ ys) (omega (arith, x)) b))
  moved m q F (d_unseen {w = w} {b = v} {cs = cs} {ds = ds} {r = r} {s = s} {i = i} {j = j} g d) f h fo b = d_unseen there (moved m q F d f (fair_look S T C m q F w cs ds v r s h).1 fo b)
    where
      there : Unlike u.cls cs ds i j
      there y lt = rw (← same.cls (suc i) (omega (arith, lt, b))) (g (rw (same.cls i (omega (arith, lt, b))) y) lt)
  moved m q F (d_chosen {c = c} {p = p} {r = r} {s = s} {i = i} {j = j} g d) f h fo b =
      d_chosen (sym (same_choice S table G T C steady all_fair all_kept t m q F p r s (inl d) f h fo u.cls (λ n x y. same.cls n (omega (arith, y, b)))) ∙ g) (moved m q F d f (fair_choose S T C m q F p r s h).0 fo b)
  moved m q F (d_unchosen {c = c} {p = p} {r = r} {s = s} {i = i} {j = j} g d) f h fo b =
      d_unchosen (sym (same_choice S table G T C steady all_fair all_kept t m q F p r s (inr d) f h fo u.cls (λ n x y. same.cls n (omega (arith, y, b)))) ∙ g) (moved m q F d f (fair_choose S T C m q F p r s h).1 fo b)
  moved m q F (d_barred {i = i} g e s) f h fo b = d_barred (rw (← same.cls i (omega (arith, s, b))) g) e s
  moved m q F (d_taken {cs = cs} {r = r} d) f h fo b = d_taken (moved m q F d f (fair_must S T C m q F cs r h).0 fo b)
  moved m q F (d_without e s) f h fo b = d_without e s
  moved m q F (d_with {r = r} d) f h fo b = d_with (moved m q F d f (fair_opt S T C m q F r h) fo b)
  moved m q F (d_make {b = v} {i = i} {j = j} ys d s) f h fo b = d_make ys (moved m q F d f h fo b) (s ∙ same.build v i j ys (forward t table S G d) b)

-- tokens of the same classes, with other leaves and other nodes
module _ {K B L N : Type 0} (table : Table K B L) (t u : Source K B N) (f : ℕ → ℕ) where
  pub rebuilt : {c : Loop K B L} {r : Rule K B L} {xs : List N} {i j : ℕ} → Derives (with_classes t f) table c r xs i j → (ys : List N) × Derives (with_classes u f) table c r ys i j
  rebuilt (d_done e s) = ([], d_done refl s)
  rebuilt (d_mark g e s) = ([], d_mark g refl s)
  rebuilt (d_word {k = k} {i = i} g e s) = (u.leaf k i ∷ [], d_word g refl s)
  rebuilt (d_ref d) = let x : _ = rebuilt d in (x.0, d_ref x.1)
  rebuilt (d_deep d) = let x : _ = rebuilt d in (x.0, d_deep x.1)
  rebuilt (d_again d) = let x : _ = rebuilt d in (x.0, d_again x.1)
  rebuilt (d_rep d) = let x : _ = rebuilt d in (x.0, d_rep x.1)
  rebuilt (d_seq k ys zs d e s) = let x : _ = rebuilt d in let y : _ = rebuilt e in (x.0 ++ y.0, d_seq k x.0 y.0 x.1 y.1 refl)
  rebuilt (d_around k g d g' s) = let x : _ = rebuilt d in (x.0, d_around k g x.1 g' s)
  rebuilt (d_left d) = let x : _ = rebuilt d in (x.0, d_left x.1)
  rebuilt (d_right d) = let x : _ = rebuilt d in (x.0, d_right x.1)
  rebuilt (d_seen {w = w} {b = b} {i = i} {j = j} ys g g' d e) = let x : _ = rebuilt d in (u.build b i j (u.leaf w i ∷ x.0), d_seen x.0 g g' x.1 refl)
  rebuilt (d_unseen g d) = let x : _ = rebuilt d in (x.0, d_unseen g x.1)
  rebuilt (d_chosen g d) = let x : _ = rebuilt d in (x.0, d_chosen g x.1)
  rebuilt (d_unchosen g d) = let x : _ = rebuilt d in (x.0, d_unchosen g x.1)
  rebuilt (d_barred g e s) = ([], d_barred g refl s)
  rebuilt (d_taken d) = let x : _ = rebuilt d in (x.0, d_taken x.1)
  rebuilt (d_without e s) = ([], d_without refl s)
  rebuilt (d_with d) = let x : _ = rebuilt d in (x.0, d_with x.1)
  rebuilt (d_make {b = b} {i = i} {j = j} ys d s) = let x : _ = rebuilt d in (u.build b i j x.0, d_make x.0 x.1 refl)

module _ {K B L N : Type 0} (g : Grammar K B L) (S : Sets L) (R : Ranks B L) (pass : (l : L) → passes g S R l ≡ true) (depth : List N → ℕ) where
  -- at the end of a piece no bracket is open
  pub nothing_open : (t : Source K B N) (l : L) (xs : List N) (i j : ℕ) → Derives t g.table outside (g.table l) xs i j → open_at g.opens g.closes t.cls i j ≡ zero
  nothing_open t l xs i j d = even t g.table S (is_grammar g S R pass) g R i (open_at g.opens g.closes t.cls i) (count_open g.opens g.closes t.cls i) (count_close g.opens g.closes t.cls i) (count_along g.opens g.closes t.cls i) (fits g S R pass) (ranked g S R pass) d (R.rank l) false (record {}) (fits g S R pass l) (omega arith) ∙ count_start g.opens g.closes t.cls i

  -- A piece within the limits ends before a token behind its beginning that stands inside too many brackets.
  pub ends_before : (t : Source K B N) (l : L) (xs : List N) (i j n : ℕ) → IsPiece g depth t l xs i j → i ≤ n → g.most_brackets < brackets_round g.opens g.closes t.cls i n → j < n
  ends_before t l xs i j n p a h = elim (less_or_same_or_more j n) [
    | inl lt ↦ lt
    | inr ge ↦ elim ge [
      | inl eq ↦ absurd (omega (arith, h, inside_open g.opens g.closes t.cls i n, rw eq at (nothing_open t l xs i j p.spelled)))
      | inr gt ↦ absurd (omega (arith, h, p.few_brackets n a gt))
    ]
  ]
    where
      less_or_same_or_more : (a b : ℕ) → (a < b) ⊎ ((a ≡ b) ⊎ (b < a))
      less_or_same_or_more a b = grind arith

  module _ (T : Tests L) (declared : (l : L) → Declared T l (g.table l)) (mode : ℕ → Bool) (h : ℕ) (closing : (l : L) → closes g S R T mode h l ≡ true) (t u : Source K B N) (deep : Deepens R.strong depth t) where
    -- A closed run is one of each source that tells the same of the tokens up to and with the one behind it.
    pub same_run_tests : (l : L) (xs : List N) (i j : ℕ) → R.shut l ≡ true → T.follow l ≡ None → Alike t u j → IsRun g mode depth t l xs i j → IsRun g mode depth u l xs i j
    same_run_tests l xs i j c fo same r = record {
      piece = record {
        spelled = moved S g.table (is_grammar g S R pass) T R.shut (row g S R pass depth t deep zero T declared mode h closing l c).0 (all_fair g S R pass depth t deep zero T declared mode h closing) (all_kept g S R pass depth t deep zero T declared mode h closing) t u j same (T.start l) None (T.follow l) r.piece.spelled (record {}) (all_fair g S R pass depth t deep zero T declared mode h closing l c) (rw fo refl) (omega arith);
        shallow = r.piece.shallow;
        few_brackets = λ n a b. rw (← round n b) (r.piece.few_brackets n a b);
      };
      closed = λ f in_mode ag ys k d. let x : _ = rebuilt g.table u t f d in r.closed f in_mode (λ n le. same.cls n le ∙ ag n le) x.0 k x.1;
    }
      where
        round : (n : ℕ) → n < j → brackets_round g.opens g.closes t.cls i n ≡ brackets_round g.opens g.closes u.cls i n
        round n b = rw (count_same g.opens g.closes t.cls u.cls i n (λ k l. same.cls k (omega (arith, l, b))), count_same g.opens g.closes t.cls u.cls i (suc n) (λ k l. same.cls k (omega (arith, l, b)))) refl

  -- The same, where no row has a test.
  pub same_run : (mode : ℕ → Bool) (h : ℕ) → ((l : L) → closes_runs g S R mode h l ≡ true) → (t u : Source K B N) → Deepens R.strong depth t → (l : L) (xs : List N) (i j : ℕ) → R.shut l ≡ true → Alike t u j → IsRun g mode depth t l xs i j → IsRun g mode depth u l xs i j
  same_run mode h closing t u deep l xs i j c same r = same_run_tests no_tests (λ l. none_declared (g.table l)) mode h closing t u deep l xs i j c refl same r
