-- What is derived is spelled within bounds: for trees no deeper than a number, in no more than so many brackets.
use Rattle.std.proofs.Common.{◌≡◌, ℕ, zero, suc, pred, ◌+◌, ◌-◌, ◌<◌, ◌≤◌, List, [], ◌∷◌, ◌++◌, refl, ap, arith, sym, ◌∙◌, inl, inr}
use Rattle.std.specs.Prelude.{Bool, true, false, cond, ◌||◌, ◌&&◌, not, Option, Some, None, ◌⊎◌, ltb}
use Rattle.grammar.specs.Rule.{Rule, done, mark, word, ref, deep, again, seq, around, alt, look, choose, opt, must, rep, make, has, Source, Table, Grammar, Unlike, Loop, outside, within, Derives, d_done, d_mark, d_word, d_ref, d_deep, d_again, d_rep, d_seq, d_around, d_left, d_right, d_seen, d_unseen, d_chosen, d_unchosen, d_without, d_with, d_barred, d_taken, d_make}
use Rattle.grammar.specs.Sets.{Sets, nul, first}
use Rattle.grammar.specs.Check.{apart, within_set, Ranks, fit, late, loops}
use Rattle.grammar.proofs.Facts.{true_false, and_true, and_both, not_true, or_either, or_left, or_right, ltb_true, less_or_same, has_left, has_right, skip, apart_holds, within_holds}
use Rattle.grammar.proofs.Spelled.{Rel, Other, rounds, Never, Spelled, Ladder, pick, Level, Covers, IsClear, IsGrammar}
use Rattle.grammar.proofs.Good.{part_none}

or_mono : (a g g' : Bool) → (g ≡ true → g' ≡ true) → (a || g) ≡ true → (a || g') ≡ true
or_mono true g g' h k = refl
or_mono false g g' h k = h k

-- where deeper levels may stand, others may
fit_more : {K B L : Type 0} (G : Grammar K B L) (R : Ranks B L) (r : Rule K B L) (p : ℕ) (g g' : Bool) → (g ≡ true → g' ≡ true) → fit G R p g r ≡ true → fit G R p g' r ≡ true
fit_more G R done p g g' le h = refl
fit_more G R (mark cs) p g g' le h = h
fit_more G R (word k cs) p g g' le h = h
fit_more G R (ref l) p g g' le h = h
fit_more G R (deep l) p g g' le h = le h
fit_more G R again p g g' le h = refl
fit_more G R (seq r s) p g g' le h = let a : _ = and_both (fit G R p g r) (fit G R p g s) h in and_true _ _ (fit_more G R r p g g' le a.0) (fit_more G R s p g g' le a.1)
fit_more G R (around cs ds r) p g g' le h = h
fit_more G R (alt r s) p g g' le h = let a : _ = and_both (fit G R p g r) (fit G R p g s) h in and_true _ _ (fit_more G R r p g g' le a.0) (fit_more G R s p g g' le a.1)
fit_more G R (look w cs ds v r s) p g g' le h =
    let a : _ = and_both (apart G.opens cs && apart G.closes cs) ((apart G.opens ds && apart G.closes ds) && (fit G R p (R.strong v || g) r && fit G R p g s)) h in
    let b : _ = and_both (apart G.opens ds && apart G.closes ds) (fit G R p (R.strong v || g) r && fit G R p g s) a.1 in
    let c : _ = and_both (fit G R p (R.strong v || g) r) (fit G R p g s) b.1 in
    and_true _ _ a.0 (and_true _ _ b.0 (and_true _ _ (fit_more G R r p (R.strong v || g) (R.strong v || g') (or_mono (R.strong v) g g' le) c.0) (fit_more G R s p g g' le c.1)))
fit_more G R (choose c r s) p g g' le h = let a : _ = and_both (fit G R p g r) (fit G R p g s) h in and_true _ _ (fit_more G R r p g g' le a.0) (fit_more G R s p g g' le a.1)
fit_more G R (must cs r) p g g' le h = fit_more G R r p g g' le h
fit_more G R (opt r) p g g' le h = fit_more G R r p g g' le h
fit_more G R (rep l r) p g g' le h = fit_more G R r p g g' le h
fit_more G R (make b r) p g g' le h = fit_more G R r p (R.strong b || g) (R.strong b || g') (or_mono (R.strong b) g g' le) h

module _ {K B L N : Type 0} (t : Source K B N) (table : Table K B L) (S : Sets L) (I : IsGrammar S table) where
  -- a derivation goes forward, and stands still only where its rule can be empty
  pub forward : {c : Loop K B L} {r : Rule K B L} {xs : List N} {i j : ℕ} → Derives t table c r xs i j → i ≤ j
  forward (d_done e s) = omega (arith, s)
  forward (d_mark h e s) = omega (arith, s)
  forward (d_word h e s) = omega (arith, s)
  forward (d_ref d) = forward d
  forward (d_deep d) = forward d
  forward (d_again d) = forward d
  forward (d_rep d) = forward d
  forward (d_seq k ys zs d e s) = omega (arith, forward d, forward e)
  forward (d_around k h d g s) = omega (arith, forward d, s)
  forward (d_left d) = forward d
  forward (d_right d) = forward d
  forward (d_seen ys h g d s) = omega (arith, forward d)
  forward (d_unseen h d) = forward d
  forward (d_chosen h d) = forward d
  forward (d_unchosen h d) = forward d
  forward (d_barred h e s) = omega (arith, s)
  forward (d_taken d) = forward d
  forward (d_without e s) = omega (arith, s)
  forward (d_with d) = forward d
  forward (d_make ys d s) = forward d

  -- the loop around, where there is one, is clear
  abbrev pub Around_clear : Loop K B L → Option L → Type 0
  Around_clear outside q = record {}
  Around_clear (within l r) q = (q ≡ Some l) × IsClear S (Some l) r × Covers S (Some l) l r

  pub still : {c : Loop K B L} {r : Rule K B L} {xs : List N} {i j : ℕ} → Derives t table c r xs i j → (q : Option L) → Around_clear c q → IsClear S q r → i ≡ j → nul S q r ≡ true
  still (d_done e s) q a k h = refl
  still (d_mark g e s) q a k h = absurd (omega (arith, s, h))
  still (d_word g e s) q a k h = absurd (omega (arith, s, h))
  still (d_ref {l = l} d) q a k h = (I.covers l).empty (still d None (record {}) (I.clear l) h)
  still (d_deep {l = l} d) q a k h = (I.covers l).empty (still d None (record {}) (I.clear l) h)
  still (d_again {l = l} {r = r} d) q a k h = rw a.0 (a.2.empty (still d (Some l) (refl, a.1, a.2) a.1 h))
  still (d_rep {l = l} {r = r} d) q a k h = k.1.empty (still d (Some l) (refl, k.0, k.1) k.0 h)
  still (d_seq k' ys zs d e s) q a k h = and_true _ _ (still d q a k.0 (omega (arith, forward d, forward e, h))) (still e q a k.1 (omega (arith, forward d, forward e, h)))
  still (d_around k' g d g' s) q a k h = absurd (omega (arith, forward d, s, h))
  still (d_left {r = r} {s = s} d) q a k h = true_false (nul S q r) (still d q a k.0 h) k.2
  still (d_right {r = r} {s = s} d) q a k h = true_false (nul S q s) (still d q a k.1 h) k.3
  still (d_seen ys g g' d s) q a k h = absurd (omega (arith, forward d, h))
  still (d_unseen g d) q a k h = still d q a k.1 h
  still (d_chosen {r = r} {s = s} g d) q a k h = or_left (nul S q r) (nul S q s) (still d q a k.0 h)
  still (d_unchosen {r = r} {s = s} g d) q a k h = or_right (nul S q r) (nul S q s) (still d q a k.1 h)
  still (d_barred g e s) q a k h = refl
  still (d_taken d) q a k h = refl
  still (d_without e s) q a k h = refl
  still (d_with d) q a k h = refl
  still (d_make ys d s) q a k h = still d q a k h

  -- a derivation that takes a token begins with one of those that are declared
  pub head : {c : Loop K B L} {r : Rule K B L} {xs : List N} {i j : ℕ} → Derives t table c r xs i j → (q : Option L) → Around_clear c q → IsClear S q r → i < j → has (first S q r) (t.cls i) ≡ true
  head (d_done e s) q a k h = absurd (omega (arith, s, h))
  head (d_mark g e s) q a k h = g
  head (d_word g e s) q a k h = g
  head (d_ref {l = l} {i = i} d) q a k h = (I.covers l).first (t.cls i) (head d None (record {}) (I.clear l) h)
  head (d_deep {l = l} {i = i} d) q a k h = (I.covers l).first (t.cls i) (head d None (record {}) (I.clear l) h)
  head (d_again {l = l} {r = r} {i = i} d) q a k h = rw a.0 (a.2.first (t.cls i) (head d (Some l) (refl, a.1, a.2) a.1 h))
  head (d_rep {l = l} {r = r} {i = i} d) q a k h = k.1.first (t.cls i) (head d (Some l) (refl, k.0, k.1) k.0 h)
  head (d_seq {r = r} {s = s} {i = i} k' ys zs d e eq) q a k h = elim (less_or_same i k' (forward d)) [
    | inl l ↦ has_left (first S q r) (cond (nul S q r) (first S q s) []) (t.cls i) (head d q a k.0 l)
    | inr l ↦ skip (nul S q r) (first S q r) (first S q s) (t.cls i) (still d q a k.0 l) (rw l (head e q a k.1 (rw l at h)))
  ]
  head (d_around k' g d g' s) q a k h = g
  head (d_left {r = r} {s = s} {i = i} d) q a k h = has_left (first S q r) (first S q s) (t.cls i) (head d q a k.0 h)
  head (d_right {r = r} {s = s} {i = i} d) q a k h = has_right (first S q r) (first S q s) (t.cls i) (head d q a k.1 h)
  head (d_seen {cs = cs} {s = s} {i = i} ys g g' d e) q a k h = has_left cs (first S q s) (t.cls i) g
  head (d_unseen {cs = cs} {s = s} {i = i} g d) q a k h = has_right cs (first S q s) (t.cls i) (head d q a k.1 h)
  head (d_chosen {r = r} {s = s} {i = i} g d) q a k h = has_left (first S q r) (first S q s) (t.cls i) (head d q a k.0 h)
  head (d_unchosen {r = r} {s = s} {i = i} g d) q a k h = has_right (first S q r) (first S q s) (t.cls i) (head d q a k.1 h)
  head (d_barred g e s) q a k h = absurd (omega (arith, s, h))
  head (d_taken d) q a k h = head d q a k.0 h
  head (d_without e s) q a k h = absurd (omega (arith, s, h))
  head (d_with d) q a k h = head d q a k.0 h
  head (d_make ys d s) q a k h = head d q a k h

  module _ (G : Grammar K B L) (R : Ranks B L) (base : ℕ) (D : ℕ → ℕ) (up : (i : ℕ) → base ≤ i → has G.opens (t.cls i) ≡ true → D (suc i) ≡ suc (D i)) (down : (i : ℕ) → base ≤ i → has G.opens (t.cls i) ≡ false → has G.closes (t.cls i) ≡ true → D (suc i) ≡ pred (D i)) (along : (i : ℕ) → base ≤ i → has G.opens (t.cls i) ≡ false → has G.closes (t.cls i) ≡ false → D (suc i) ≡ D i)
      (fits : (l : L) → fit G R (R.rank l) false (table l) ≡ true) (ranks : (l : L) → ltb (R.rank l) R.top ≡ true) where
    abbrev Around_fit : Loop K B L → ℕ → Bool → Type 0
    Around_fit outside p g = record {}
    Around_fit (within l r) p g = fit G R p g r ≡ true

    around_more : (c : Loop K B L) (p : ℕ) (g g' : Bool) → (g ≡ true → g' ≡ true) → Around_fit c p g → Around_fit c p g'
    around_more outside p g g' le h = h
    around_more (within l r) p g g' le h = fit_more G R r p g g' le h

    -- a token that is no bracket leaves the count
    plain : (cs : List ℕ) (i : ℕ) → base ≤ i → (apart G.opens cs && apart G.closes cs) ≡ true → has cs (t.cls i) ≡ true → D (suc i) ≡ D i
    plain cs i bi h g = let a : _ = and_both (apart G.opens cs) (apart G.closes cs) h in along i bi (apart_holds G.opens cs a.0 (t.cls i) g) (apart_holds G.closes cs a.1 (t.cls i) g)

    opened : (cs ds : List ℕ) (i : ℕ) → base ≤ i → (within_set cs G.opens && (within_set ds G.closes && apart G.opens ds)) ≡ true → has cs (t.cls i) ≡ true → D (suc i) ≡ suc (D i)
    opened cs ds i bi h g =
        let b : _ = and_both (within_set cs G.opens) (within_set ds G.closes && apart G.opens ds) h in
        up i bi (within_holds cs G.opens b.0 (t.cls i) g)

    closed : (cs ds : List ℕ) (i : ℕ) → base ≤ i → (within_set cs G.opens && (within_set ds G.closes && apart G.opens ds)) ≡ true → has ds (t.cls i) ≡ true → D (suc i) ≡ pred (D i)
    closed cs ds i bi h g =
        let b : _ = and_both (within_set cs G.opens) (within_set ds G.closes && apart G.opens ds) h in
        let e : _ = and_both (within_set ds G.closes) (apart G.opens ds) b.1 in
        down i bi (apart_holds G.opens ds e.1 (t.cls i) g) (within_holds ds G.closes e.0 (t.cls i) g)

    looked : (b : B) (cs ds : List ℕ) (r s : Rule K B L) (p : ℕ) (g : Bool) → ((apart G.opens cs && apart G.closes cs) && ((apart G.opens ds && apart G.closes ds) && (fit G R p (R.strong b || g) r && fit G R p g s))) ≡ true → ((apart G.opens cs && apart G.closes cs) ≡ true) × ((apart G.opens ds && apart G.closes ds) ≡ true) × (fit G R p (R.strong b || g) r ≡ true) × (fit G R p g s ≡ true)
    looked b cs ds r s p g h =
        let a : _ = and_both (apart G.opens cs && apart G.closes cs) ((apart G.opens ds && apart G.closes ds) && (fit G R p (R.strong b || g) r && fit G R p g s)) h in
        let e : _ = and_both (apart G.opens ds && apart G.closes ds) (fit G R p (R.strong b || g) r && fit G R p g s) a.1 in
        let f : _ = and_both (fit G R p (R.strong b || g) r) (fit G R p g s) e.1 in
        (a.0, e.0, f.0, f.1)

    -- brackets stand in pairs
    pub even : {c : Loop K B L} {r : Rule K B L} {xs : List N} {i j : ℕ} → Derives t table c r xs i j → (p : ℕ) (g : Bool) → Around_fit c p g → fit G R p g r ≡ true → base ≤ i → D j ≡ D i
    even (d_done e s) p g a h bi = ap D (sym s)
    even (d_mark {cs = cs} {i = i} y e s) p g a h bi = ap D s ∙ plain cs i bi h y
    even (d_word {cs = cs} {i = i} y e s) p g a h bi = ap D s ∙ plain cs i bi h y
    even (d_ref {l = l} d) p g a h bi = even d (R.rank l) false (record {}) (fits l) bi
    even (d_deep {l = l} d) p g a h bi = even d (R.rank l) false (record {}) (fits l) bi
    even (d_again d) p g a h bi = even d p g a a bi
    even (d_rep d) p g a h bi = even d p g h h bi
    even (d_seq {r = r} {s = s} k ys zs d e x) p g a h bi = let b : _ = and_both (fit G R p g r) (fit G R p g s) h in even e p g a b.1 (omega (arith, forward d)) ∙ even d p g a b.0 bi
    even (d_around {c = c} {cs = cs} {ds = ds} {r = r} {i = i} k y d y' s) p g a h bi =
        let b : _ = and_both (within_set cs G.opens && (within_set ds G.closes && apart G.opens ds)) (fit G R p true r) h in
        ap D s ∙ (closed cs ds k (omega (arith, forward d)) b.0 y' ∙ ap pred (even d p true (around_more c p g true (λ e. refl) a) b.1 (omega arith) ∙ opened cs ds i bi b.0 y))
    even (d_left {r = r} {s = s} d) p g a h bi = even d p g a (and_both (fit G R p g r) (fit G R p g s) h).0 bi
    even (d_right {r = r} {s = s} d) p g a h bi = even d p g a (and_both (fit G R p g r) (fit G R p g s) h).1 bi
    even (d_seen {c = c} {b = b} {cs = cs} {ds = ds} {r = r} {s = s} {i = i} ys y y' d x) p g a h bi =
        let u : _ = looked b cs ds r s p g h in
        even d p (R.strong b || g) (around_more c p g (R.strong b || g) (or_right (R.strong b) g) a) u.2 (omega arith) ∙ (plain ds (suc i) (omega arith) u.1 y' ∙ plain cs i bi u.0 y)
    even (d_unseen {b = b} {cs = cs} {ds = ds} {r = r} {s = s} y d) p g a h bi = even d p g a (looked b cs ds r s p g h).3 bi
    even (d_chosen {r = r} {s = s} y d) p g a h bi = even d p g a (and_both (fit G R p g r) (fit G R p g s) h).0 bi
    even (d_unchosen {r = r} {s = s} y d) p g a h bi = even d p g a (and_both (fit G R p g r) (fit G R p g s) h).1 bi
    even (d_barred y e s) p g a h bi = ap D (sym s)
    even (d_taken d) p g a h bi = even d p g a h bi
    even (d_without e s) p g a h bi = ap D (sym s)
    even (d_with d) p g a h bi = even d p g a h bi
    even (d_make {c = c} {b = b} ys d s) p g a h bi = even d p (R.strong b || g) (around_more c p g (R.strong b || g) (or_right (R.strong b) g) a) h bi

    module _ (dep : List N → ℕ) (dep_left : (ys zs : List N) → dep ys ≤ dep (ys ++ zs)) (dep_right : (ys zs : List N) → dep zs ≤ dep (ys ++ zs)) (weak : (b : B) (i j : ℕ) (ys : List N) → dep ys ≤ dep (t.build b i j ys)) (strict : (b : B) (i j : ℕ) (ys : List N) → R.strong b ≡ true → dep ys < dep (t.build b i j ys)) (M limit : ℕ) (no_again : (l : L) → late S None (table l) ≡ true) (loop : (l : L) → loops S (table l) ≡ true) where
      abbrev Rungs : ℕ → ℕ → Bool → L → Rel N
      Rungs r k = pick (Ladder t S M table (Level t S M table R.top r) k) (Level t S M table R.top r)

      abbrev Env : ℕ → ℕ → Loop K B L → ℕ → Rel N
      Env r k outside n = Never N
      Env r k (within l body) n = rounds (Never N) (λ X. Spelled t S M (Rungs r k) X (Some l) body) n

      abbrev Around_loop : Loop K B L → Type 0
      Around_loop outside = record {}
      Around_loop (within l r) = (late S (Some l) r ≡ true) × (loops S r ≡ true)

      ladder_of : (X : L → Rel N) (k : ℕ) (l : L) (xs : List N) (i j : ℕ) → zero < k → Spelled t S M (pick (Ladder t S M table X (pred k)) X) (Never N) None (table l) None xs i j → Ladder t S M table X k l None xs i j
      ladder_of X zero l xs i j h d = absurd (omega arith)
      ladder_of X (suc k) l xs i j h d = d

      level_of : (r : ℕ) (l : L) (xs : List N) (i j : ℕ) → zero < r → Ladder t S M table (Level t S M table R.top (pred r)) R.top l None xs i j → Level t S M table R.top r l None xs i j
      level_of zero l xs i j h d = absurd (omega arith)
      level_of (suc r) l xs i j h d = d

      first_round : (F : Rel N → Rel N) (m : ℕ) (xs : List N) (i j : ℕ) → zero < m → F (rounds (Never N) F (pred m)) None xs i j → rounds (Never N) F m None xs i j
      first_round F zero xs i j h d = absurd (omega arith)
      first_round F (suc m) xs i j h d = d

      -- the second part of a sequence has a token before it, or its loops go on late
      later : (q : Option L) (i0 i k : ℕ) (r s : Rule K B L) → i0 ≤ i → i ≤ k → (i ≡ k → nul S q r ≡ true) → (late S q (seq r s) ≡ true) ⊎ (i0 < i) → (late S q s ≡ true) ⊎ (i0 < k)
      later q i0 i k r s le le' st (inr lt) = inr (omega arith)
      later q i0 i k r s le le' st (inl h) = elim (or_either (not (nul S q r)) (late S q s) (and_both (late S q r) (not (nul S q r) || late S q s) h).1) [
        | inl n ↦ inr (moved (nul S q r) st (not_true (nul S q r) n))
        | inr g ↦ inl g
      ]
        where
          moved : (b : Bool) → (i ≡ k → b ≡ true) → b ≡ false → i0 < k
          moved b st n = elim (nat_cases i k) [ inl lt ↦ omega arith | inr e ↦ true_false b (st (omega (arith, e))) n ]
            where
              nat_cases : (i k : ℕ) → (i < k) ⊎ (k ≤ i)
              nat_cases i k = grind arith

      part_late : (q : Option L) (i0 i : ℕ) (a b : Bool) → ((a && b) ≡ true) ⊎ (i0 < i) → (a ≡ true) ⊎ (i0 < i)
      part_late q i0 i a b (inl h) = inl (and_both a b h).0
      part_late q i0 i a b (inr h) = inr h

      part_late' : (q : Option L) (i0 i : ℕ) (a b : Bool) → ((a && b) ≡ true) ⊎ (i0 < i) → (b ≡ true) ⊎ (i0 < i)
      part_late' q i0 i a b (inl h) = inl (and_both a b h).1
      part_late' q i0 i a b (inr h) = inr h

      strictly : {P : Type 0} {i0 i : ℕ} → (false ≡ true) ⊎ (i0 < i) → (i0 < i → P) → P
      strictly (inl h) f = cc
      strictly (inr h) f = f h

      never : {P : Type 0} → false ≡ true → P
      never h = cc

      -- what is left of depth and of brackets
      in_strong : (dy dx d x r : ℕ) → dy < dx → dx ≤ d → d + x ≤ r → (dy ≤ pred d) × (pred d + x < r)
      in_strong dy dx d x r h k w = (omega arith, omega arith)

      made : (u g : Bool) (dy dx d x r : ℕ) → (u ≡ true → dy < dx) → dy ≤ dx → dx ≤ d → d + x ≤ r → (g ≡ true → d + x < r) → (dy ≤ cond u (pred d) d) × (cond u (pred d) d + x ≤ r) × ((u || g) ≡ true → cond u (pred d) d + x < r)
      made true g dy dx d x r h le le' w v = let a : _ = in_strong dy dx d x r (h refl) le' w in (a.0, weaker (pred d + x) r a.1, λ e. a.1)
        where
          weaker : (a b : ℕ) → a < b → a ≤ b
          weaker a b h = omega arith
      made false g dy dx d x r h le le' w v = (trans dy dx d le le', w, v)
        where
          trans : (a b c : ℕ) → a ≤ b → b ≤ c → a ≤ c
          trans a b c h k = omega arith

      in_bracket : (d a b r : ℕ) → b ≡ suc a → b ≤ limit → d + (limit - a) ≤ r → d + (limit - b) < r
      in_bracket d a b r e le w = omega arith

      below_top : (p : ℕ) → p < R.top → p ≤ pred R.top
      below_top p h = omega arith

      below_rank : (x p k : ℕ) → x < p → p ≤ k → x ≤ pred k
      below_rank x p k h le = omega arith

      other : (cs ds : List ℕ) (i j : ℕ) → Unlike t.cls cs ds i j → Other t cs ds None i j
      other cs ds i j u h = ahead (ltb (suc i) j) refl
        where
          ahead : (b : Bool) → ltb (suc i) j ≡ b → cond b (has ds (t.cls (suc i)) ≡ false) (record {})
          ahead true e = u h (ltb_true (suc i) j e)
          ahead false e = record {}

      pub bounded : {c : Loop K B L} {rl : Rule K B L} {xs : List N} {i j : ℕ} → Derives t table c rl xs i j → (n r k : ℕ) (q : Option L) (p d i0 : ℕ) (g : Bool)
          → Around_clear c q → Around_fit c p g → Around_loop c → IsClear S q rl → fit G R p g rl ≡ true → loops S rl ≡ true → p ≤ k
          → (late S q rl ≡ true) ⊎ (i0 < i) → i0 ≤ i → j ≤ n + i0 → j < M → dep xs ≤ d → base ≤ i → ((m : ℕ) → i ≤ m → m ≤ j → D m ≤ limit) → d + (limit - D i) ≤ r → (g ≡ true → d + (limit - D i) < r)
          → Spelled t S M (Rungs r k) (Env r k c n) q rl None xs i j
      bounded (d_done e s) n r k q p d i0 g a a' a'' cl f w pk la le nj jm dd bi lim bud bug = (e, s)
      bounded (d_mark y e s) n r k q p d i0 g a a' a'' cl f w pk la le nj jm dd bi lim bud bug = (y, e, s)
      bounded (d_word y e s) n r k q p d i0 g a a' a'' cl f w pk la le nj jm dd bi lim bud bug = (y, e, s)
      bounded (d_ref {l = l} {xs = xs} {i = i} {j = j} x) n r k q p d i0 g a a' a'' cl f w pk la le nj jm dd bi lim bud bug =
          let lt : R.rank l < p = ltb_true (R.rank l) p f in
          ladder_of (Level t S M table R.top r) k l xs i j (omega (arith, lt)) (bounded x j r (pred k) None (R.rank l) d i false (record {}) (record {}) (record {}) (I.clear l) (fits l) (loop l) (below_rank (R.rank l) p k lt pk) (inl (no_again l)) (omega arith) (omega arith) jm dd bi lim bud (λ e. never e))
      bounded (d_deep {l = l} {xs = xs} {i = i} {j = j} x) n r k q p d i0 g a a' a'' cl f w pk la le nj jm dd bi lim bud bug =
          let lt : d + (limit - D i) < r = bug f in
          let rt : R.rank l < R.top = ltb_true (R.rank l) R.top (ranks l) in
          level_of r l xs i j (omega (arith, lt)) (ladder_of (Level t S M table R.top (pred r)) R.top l xs i j (omega (arith, rt))
          (bounded x j (pred r) (pred R.top) None (R.rank l) d i false (record {}) (record {}) (record {}) (I.clear l) (fits l) (loop l) (below_top (R.rank l) rt) (inl (no_again l)) (omega arith) (omega arith) jm dd bi lim (omega (arith, lt)) (λ e. never e)))
      bounded (d_again {l = l} {r = body} x) zero r k q p d i0 g a a' a'' cl f w pk la le nj jm dd bi lim bud bug = strictly la (λ h. absurd (omega (arith, forward x, h, nj)))
      bounded (d_again {l = l} {r = body} {i = i} x) (suc n) r k q p d i0 g a a' a'' cl f w pk la le nj jm dd bi lim bud bug = strictly la (λ h. bounded x n r k (Some l) p d i g (refl, a.1, a.2) a' a'' a.1 a' a''.1 pk (inl a''.0) (omega arith) (omega (arith, h, nj)) jm dd bi lim bud bug)
      bounded (d_rep {l = l} {r = body} {xs = xs} {i = i} {j = j} x) n r k q p d i0 g a a' a'' cl f w pk la le nj jm dd bi lim bud bug =
          let v : _ = and_both (late S (Some l) body) (loops S body) w in
          first_round (λ X. Spelled t S M (Rungs r k) X (Some l) body) M xs i j (omega (arith, jm)) (bounded x (pred M) r k (Some l) p d i g (refl, cl.0, cl.1) f v cl.0 f v.1 pk (inl v.0) (omega arith) (omega (arith, jm)) jm dd bi lim bud bug)
      bounded (d_seq {r = u} {s = s} {xs = xs} {i = i} {j = j} m ys zs x y e) n r k q p d i0 g a a' a'' cl f w pk la le nj jm dd bi lim bud bug =
          let f2 : _ = and_both (fit G R p g u) (fit G R p g s) f in
          let w2 : _ = and_both (loops S u) (loops S s) w in
          let fx : i ≤ m = forward x in
          let fy : m ≤ j = forward y in
          let dd' : dep (ys ++ zs) ≤ d = rw e at dd in
          let same : D m ≡ D i = even x p g a' f2.0 bi in (
            m,
            ys,
            zs,
            rw part_none (bounded x n r k q p d i0 g a a' a'' cl.0 f2.0 w2.0 pk (part_late q i0 i (late S q u) (not (nul S q u) || late S q s) la) le (omega arith) (omega arith) (omega (arith, dep_left ys zs, dd')) bi (λ n' u' v. lim n' u' (omega arith)) bud bug),
            bounded y n r k q p d i0 g a a' a'' cl.1 f2.1 w2.1 pk (later q i0 i m u s le fx (λ h. still x q a cl.0 h) la) (omega arith) nj jm (omega (arith, dep_right ys zs, dd')) (omega arith) (λ n' u' v. lim n' (omega arith) v) (rw same bud) (λ h. rw same (bug h)),
            e,
          )
      bounded (d_around {c = c} {cs = cs} {ds = ds} {r = u} {xs = xs} {i = i} {j = j} m y x y' e) n r k q p d i0 g a a' a'' cl f w pk la le nj jm dd bi lim bud bug =
          let f2 : _ = and_both (within_set cs G.opens && (within_set ds G.closes && apart G.opens ds)) (fit G R p true u) f in
          let fx : suc i ≤ m = forward x in
          let at_open : D (suc i) ≡ suc (D i) = opened cs ds i bi f2.0 y in
          let less : d + (limit - D (suc i)) < r = in_bracket d (D i) (D (suc i)) r at_open (lim (suc i) (omega arith) (omega (arith, e))) bud in
          (m, y, bounded x n r k q p d i0 true a (around_more c p g true (λ h. refl) a') a'' cl.0 f2.1 w pk (inr (omega arith)) (omega arith) (omega (arith, e)) (omega (arith, e)) dd (omega arith) (λ n' u' v. lim n' (omega arith) (omega (arith, e))) (omega (arith, less)) (λ h. less), y', e)
      bounded (d_left {r = u} {s = s} {i = i} x) n r k q p d i0 g a a' a'' cl f w pk la le nj jm dd bi lim bud bug = inl (bounded x n r k q p d i0 g a a' a'' cl.0 (and_both (fit G R p g u) (fit G R p g s) f).0 (and_both (loops S u) (loops S s) w).0 pk (part_late q i0 i (late S q u) (late S q s) la) le nj jm dd bi lim bud bug)
      bounded (d_right {r = u} {s = s} {i = i} x) n r k q p d i0 g a a' a'' cl f w pk la le nj jm dd bi lim bud bug = inr (bounded x n r k q p d i0 g a a' a'' cl.1 (and_both (fit G R p g u) (fit G R p g s) f).1 (and_both (loops S u) (loops S s) w).1 pk (part_late' q i0 i (late S q u) (late S q s) la) le nj jm dd bi lim bud bug)
      bounded (d_seen {c = c} {w = w'} {b = b} {cs = cs} {ds = ds} {r = u} {s = s} {xs = xs} {i = i} {j = j} ys y y' x e) n r k q p d i0 g a a' a'' cl f w pk la le nj jm dd bi lim bud bug =
          let z : _ = looked b cs ds u s p g f in
          let w2 : _ = and_both (loops S u) (loops S s) w in
          let more_kids : dep ys ≤ dep (t.leaf w' i ∷ ys) = dep_right (t.leaf w' i ∷ []) ys in
          let grown : (R.strong b ≡ true → dep ys < dep xs) = λ h. rw e (omega (arith, strict b i j (t.leaf w' i ∷ ys) h, more_kids)) in
          let kept : dep ys ≤ dep xs = rw e (omega (arith, weak b i j (t.leaf w' i ∷ ys), more_kids)) in
          let v : _ = made (R.strong b) g (dep ys) (dep xs) d (limit - D i) r grown kept dd bud bug in
          let same : D (suc (suc i)) ≡ D i = plain ds (suc i) (omega arith) z.1 y' ∙ plain cs i bi z.0 y in
          inl (ys, y, y', bounded x n r k q p (cond (R.strong b) (pred d) d) i0 (R.strong b || g) a (around_more c p g (R.strong b || g) (or_right (R.strong b) g) a') a'' cl.0 z.2 w2.0 pk (inr (omega arith)) (omega arith) nj jm v.0 (omega arith) (λ n' l l'. lim n' (omega arith) l') (rw same v.1) (λ h. rw same (v.2 h)), e)
      bounded (d_unseen {b = b} {cs = cs} {ds = ds} {r = u} {s = s} {i = i} {j = j} y x) n r k q p d i0 g a a' a'' cl f w pk la le nj jm dd bi lim bud bug = inr (other cs ds i j y, bounded x n r k q p d i0 g a a' a'' cl.1 (looked b cs ds u s p g f).3 (and_both (loops S u) (loops S s) w).1 pk la le nj jm dd bi lim bud bug)
      bounded (d_chosen {r = u} {s = s} {i = i} y x) n r k q p d i0 g a a' a'' cl f w pk la le nj jm dd bi lim bud bug = inl (y, bounded x n r k q p d i0 g a a' a'' cl.0 (and_both (fit G R p g u) (fit G R p g s) f).0 (and_both (loops S u) (loops S s) w).0 pk (part_late q i0 i (late S q u) (late S q s) la) le nj jm dd bi lim bud bug)
      bounded (d_unchosen {r = u} {s = s} {i = i} y x) n r k q p d i0 g a a' a'' cl f w pk la le nj jm dd bi lim bud bug = inr (y, bounded x n r k q p d i0 g a a' a'' cl.1 (and_both (fit G R p g u) (fit G R p g s) f).1 (and_both (loops S u) (loops S s) w).1 pk (part_late' q i0 i (late S q u) (late S q s) la) le nj jm dd bi lim bud bug)
      bounded (d_barred y e s) n r k q p d i0 g a a' a'' cl f w pk la le nj jm dd bi lim bud bug = inl (y, e, s)
      bounded (d_taken x) n r k q p d i0 g a a' a'' cl f w pk la le nj jm dd bi lim bud bug = inr (bounded x n r k q p d i0 g a a' a'' cl.0 f w pk la le nj jm dd bi lim bud bug)
      bounded (d_without e s) n r k q p d i0 g a a' a'' cl f w pk la le nj jm dd bi lim bud bug = inl (e, s, record {})
      bounded (d_with x) n r k q p d i0 g a a' a'' cl f w pk la le nj jm dd bi lim bud bug = inr (bounded x n r k q p d i0 g a a' a'' cl.0 f w pk la le nj jm dd bi lim bud bug)
      bounded (d_make {c = c} {b = b} {r = u} {xs = xs} {i = i} {j = j} ys x e) n r k q p d i0 g a a' a'' cl f w pk la le nj jm dd bi lim bud bug =
          let grown : (R.strong b ≡ true → dep ys < dep xs) = λ h. rw e (strict b i j ys h) in
          let kept : dep ys ≤ dep xs = rw e (weak b i j ys) in
          let v : _ = made (R.strong b) g (dep ys) (dep xs) d (limit - D i) r grown kept dd bud bug in
          (ys, bounded x n r k q p (cond (R.strong b) (pred d) d) i0 (R.strong b || g) a (around_more c p g (R.strong b || g) (or_right (R.strong b) g) a') a'' cl f w pk la le nj jm v.0 bi lim v.1 v.2, e)
