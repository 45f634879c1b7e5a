-- A level reads the same however many levels may still stand in it, from its rank on.
use Rattle.std.proofs.Common.{◌≡◌, ℕ, zero, suc, ◌-◌, ◌<◌, List, ◌++◌, refl, arith}
use Rattle.std.specs.Prelude.{Bool, true, false, ◌||◌, ◌&&◌, Option, Some, None}
use Rattle.grammar.specs.Rule.{Rule, done, mark, word, ref, deep, again, seq, around, alt, look, choose, opt, must, rep, make, Source, Grammar}
use Rattle.grammar.specs.Sets.{Sets}
use Rattle.grammar.specs.Reader.{Read, ◌>>=◌, turns, read, choice, climb, read_level}
use Rattle.grammar.specs.Check.{apart, within_set, Ranks, fit, passes}
use Rattle.grammar.proofs.Facts.{and_both, ltb_true}
use Rattle.grammar.proofs.Checked.{fits, ranked}

bind_same : {A B : Type 0} (o : Option A) (f f' : A → Option B) → ((x : A) → f x ≡ f' x) → (o >>= f) ≡ (o >>= f')
bind_same None f f' h = refl
bind_same (Some x) f f' h = h x

turns_same : {X : Type 0} (x : ℕ → X) (F F' : (ℕ → X) → ℕ → X) → ((A A' : ℕ → X) → ((i : ℕ) → A i ≡ A' i) → (i : ℕ) → F A i ≡ F' A' i) → (n i : ℕ) → turns x F n i ≡ turns x F' n i
turns_same x F F' h zero i = refl
turns_same x F F' h (suc n) i = h (turns x F n) (turns x F' n) (turns_same x F F' h n) i

module _ {K B L N : Type 0} (t : Source K B N) (S : Sets L) (m : ℕ) (G : Grammar K B L) (R : Ranks B L) where
  reads_same : (r : Rule K B L) (p : ℕ) (g : Bool) (q : Option L) (V V' : Bool → L → Read N) (A A' : Read N) → ((l : L) → R.rank l < p → (i : ℕ) → V false l i ≡ V' false l i) → ((l : L) (i : ℕ) → V true l i ≡ V' true l i) → ((i : ℕ) → A i ≡ A' i) → fit G R p g r ≡ true → (i : ℕ) → read t S m V A q r i ≡ read t S m V' A' q r i
  reads_same done p g q V V' A A' a b c f i = refl
  reads_same (mark cs) p g q V V' A A' a b c f i = refl
  reads_same (word k cs) p g q V V' A A' a b c f i = refl
  reads_same (ref l) p g q V V' A A' a b c f i = a l (ltb_true (R.rank l) p f) i
  reads_same (deep l) p g q V V' A A' a b c f i = b l i
  reads_same again p g q V V' A A' a b c f i = c i
  reads_same (seq r s) p g q V V' A A' a b c f i =
      let u : _ = and_both (fit G R p g r) (fit G R p g s) f in
      rw (reads_same r p g q V V' A A' a b c u.0 i) (bind_same (read t S m V' A' q r i) (λ x. ◌>>=◌ {B = List N × ℕ} (read t S m V A q s x.1) (λ y. Some (x.0 ++ y.0, y.1))) (λ x. ◌>>=◌ {B = List N × ℕ} (read t S m V' A' q s x.1) (λ y. Some (x.0 ++ y.0, y.1))) (λ x. rw (reads_same s p g q V V' A A' a b c u.1 x.1) refl))
  reads_same (around cs ds r) p g q V V' A A' a b c f i =
      rw (reads_same r p true q V V' A A' a b c (and_both (within_set cs G.opens && (within_set ds G.closes && apart G.opens ds)) (fit G R p true r) f).1 (suc i)) refl
  reads_same (alt r s) p g q V V' A A' a b c f i =
      let u : _ = and_both (fit G R p g r) (fit G R p g s) f in
      rw (reads_same r p g q V V' A A' a b c u.0 i, reads_same s p g q V V' A A' a b c u.1 i) refl
  reads_same (look w cs ds v r s) p g q V V' A A' a b c f i =
      let u0 : _ = and_both (apart G.opens cs && apart G.closes cs) ((apart G.opens ds && apart G.closes ds) && (fit G R p (R.strong v || g) r && fit G R p g s)) f in
      let u : _ = and_both (apart G.opens ds && apart G.closes ds) (fit G R p (R.strong v || g) r && fit G R p g s) u0.1 in
      let z : _ = and_both (fit G R p (R.strong v || g) r) (fit G R p g s) u.1 in
      rw (reads_same r p (R.strong v || g) q V V' A A' a b c z.0 (suc (suc i)), reads_same s p g q V V' A A' a b c z.1 i) refl
  reads_same (choose c r s) p g q V V' A A' a b k f i =
      let u : _ = and_both (fit G R p g r) (fit G R p g s) f in
      rw (reads_same r p g q V V' A A' a b k u.0 i, reads_same s p g q V V' A A' a b k u.1 i) refl
  reads_same (must cs r) p g q V V' A A' a b c f i = rw (reads_same r p g q V V' A A' a b c f i) refl
  reads_same (opt r) p g q V V' A A' a b c f i = rw (reads_same r p g q V V' A A' a b c f i) refl
  reads_same (rep l r) p g q V V' A A' a b c f i = turns_same (λ i. None) (λ X. read t S m V X (Some l) r) (λ X. read t S m V' X (Some l) r) (λ X X' h j. reads_same r p g (Some l) V V' X X' a b h f j) m i
  reads_same (make v r) p g q V V' A A' a b c f i = rw (reads_same r p (R.strong v || g) q V V' A A' a b c f i) refl

  module _ (pass : (l : L) → passes G S R l ≡ true) where
    stable : (D : L → Read N) (k k' : ℕ) (l : L) → R.rank l < k → R.rank l < k' → (i : ℕ) → climb t S m G.table D k l i ≡ climb t S m G.table D k' l i
    stable D zero k' l h h' i = absurd (omega arith)
    stable D (suc k) zero l h h' i = absurd (omega arith)
    stable D (suc k) (suc k') l h h' i = reads_same (G.table l) (R.rank l) false None (choice (climb t S m G.table D k) D) (choice (climb t S m G.table D k') D) (λ i. None) (λ i. None) (λ l' lt j. stable D k k' l' (omega arith) (omega arith) j) (λ l' j. refl) (λ j. refl) (fits G S R pass l) i

    climbed : (top h : ℕ) (l : L) → R.rank l < top → (i : ℕ) → read_level t S m G.table top (suc h) l i ≡ read t S m (choice (read_level t S m G.table top (suc h)) (read_level t S m G.table top h)) (λ i. None) None (G.table l) i
    climbed zero h l lt i = absurd (omega arith)
    climbed (suc top) h l lt i = reads_same (G.table l) (R.rank l) false None (choice (climb t S m G.table (read_level t S m G.table (suc top) h) top) (read_level t S m G.table (suc top) h)) (choice (read_level t S m G.table (suc top) (suc h)) (read_level t S m G.table (suc top) h)) (λ i. None) (λ i. None)
        (λ l' lt' j. stable (read_level t S m G.table (suc top) h) top (suc top) l' (omega arith) (omega arith) j) (λ l' j. refl) (λ j. refl) (fits G S R pass l) i

    -- The step that a function of a reader makes: a level reads its row, over the levels at hand and those one step deeper.
    pub room_step : (room : ℕ) (l : L) (i : ℕ) → zero < room → read_level t S m G.table R.top room l i ≡ read t S m (choice (read_level t S m G.table R.top room) (read_level t S m G.table R.top (room - 1))) (λ i. None) None (G.table l) i
    room_step zero l i h = absurd (omega arith)
    room_step (suc h) l i lt = rw one_less (climbed R.top h l (ltb_true (R.rank l) R.top (ranked G S R pass l)) i)
      where
        one_less : suc h - 1 ≡ h
        one_less = omega arith
