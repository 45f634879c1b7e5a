-- What a token can't go on with is what no longer run goes on with.
use Rattle.std.proofs.Common.{◌≡◌, ℕ, zero, suc, ◌<◌, ◌≤◌, List, [], ◌∷◌, refl, ap, arith, sym, ◌∙◌, inl, inr}
use Rattle.std.specs.Prelude.{Bool, true, false, ◌||◌, ◌&&◌, not, Option, Some, None, ◌⊎◌}
use Rattle.grammar.specs.Rule.{Rule, done, mark, word, ref, deep, again, seq, around, alt, look, choose, opt, must, rep, make, has, Source, Table, Unlike, Loop, outside, within, Derives, d_done, d_mark, d_word, d_ref, d_deep, d_again, d_rep, d_seq, d_around, d_left, d_right, d_seen, d_unseen, d_chosen, d_unchosen, d_without, d_with, d_barred, d_taken, d_make}
use Rattle.grammar.specs.Sets.{Sets, nul, first, more, first_of, more_of, empty_of}
use Rattle.grammar.specs.Tests.{Tests, targets, IsTest, arms}
use Rattle.grammar.specs.Check.{each, within_set, follows, admits, behind_part, keeps, some_word, hollow, begun, is_word, fruitful}
use Rattle.grammar.proofs.Facts.{true_false, decide, and_both, or_either, implied, ltb_less, ltb_same, less_or_same, no_some, each_at}
use Rattle.grammar.proofs.Spelled.{Rel, Other, rounds, Never, Spelled, IsGrammar}
use Rattle.grammar.proofs.Good.{Good, part_none, part_before, part_end, good_rule, good_within, good_rounds}
use Rattle.grammar.proofs.Meaning.{derived}
use Rattle.grammar.proofs.Fair.{Same, unlike_moves, admitted, admitted_any, follows_first, follows_end, behind_any, Fair, Fair_loop, fair_seq, fair_around, fair_alt, fair_look, fair_choose, told_parts, fair_opt, fair_must, fair_rep, clear_loop, same_choice}
use Rattle.grammar.proofs.Bounded.{forward, still, head}
use Rattle.grammar.proofs.Words.{Match, in_row, WordOf, Empty, some_sound, hollow_sound, begun_sound}

-- a word that a table gives, all of the mode
word_of : (mode : ℕ → Bool) (o : Option (List ℕ)) → is_word mode o ≡ true → (w : List ℕ) × (o ≡ Some w) × (each mode w ≡ true)
word_of mode (Some w) h = (w, refl, h)
word_of mode None h = cc

-- up to a place, and with it
and_there : {K B N : Type 0} (t u : Source K B N) (i j : ℕ) → Same t u i j → t.cls j ≡ u.cls j → Same t u i (suc j)
and_there t u i j sm e n a b = elim (less_or_same n j (omega (arith, b))) [ inl lt ↦ sm n a lt | inr eq ↦ ap t.cls eq ∙ (e ∙ ap u.cls (sym eq)) ]

module _ {K B L : Type 0} (N : Type 0) (S : Sets L) (table : Table K B L) (G : IsGrammar S table) (T : Tests L) (C : L → Bool) (steady : each (λ a. within_set (targets (arms T.automaton a)) T.states) T.states ≡ true)
    (all_fair : (l : L) → C l ≡ true → Fair S T C (T.start l) None (T.follow l) (table l)) (all_kept : (l : L) → C l ≡ true → keeps T None l (table l) ≡ true) (mode : ℕ → Bool) where
  -- a derivation goes over to a token list with the same classes, up to and with the one behind it
  moves : (t u : Source K B N) {c : Loop K B L} {r : Rule K B L} {xs : List N} {i j : ℕ} (m : Option ℕ) (q : Option L) (F : Option (List ℕ)) → Derives t table c r xs i j → Fair_loop S T C m c q → Fair S T C m q F r → follows F (t.cls j) ≡ true → Same t u i (suc j) → (ys : List N) × Derives u table c r ys i j
  moves t u m q F (d_done e s) a k fo sm = ([], d_done refl s)
  moves t u m q F (d_mark {i = i} g e s) a k fo sm = ([], d_mark (rw (← sm i (omega arith) (omega (arith, s))) g) refl s)
  moves t u m q F (d_word {k = w} {i = i} g e s) a k fo sm = (u.leaf w i ∷ [], d_word (rw (← sm i (omega arith) (omega (arith, s))) g) refl s)
  moves t u m q F (d_ref {l = l} {j = j} d) a k fo sm =
      let p : _ = and_both (C l) (admits F (T.follow l)) k.0 in
      let x : _ = moves t u (T.start l) None (T.follow l) d (record {}) (all_fair l p.0) (admitted F (T.follow l) (t.cls j) p.1 fo) sm in (x.0, d_ref x.1)
  moves t u m q F (d_deep {l = l} {j = j} d) a k fo sm =
      let p : _ = and_both (C l) (admits F (T.follow l)) k.0 in
      let x : _ = moves t u (T.start l) None (T.follow l) d (record {}) (all_fair l p.0) (admitted F (T.follow l) (t.cls j) p.1 fo) sm in (x.0, d_deep x.1)
  moves t u m None F (d_again d) a k fo sm = absurd (omega (arith, a.no))
  moves t u m (Some q) F (d_again {j = j} d) a k fo sm = let x : _ = moves t u m (Some q) (T.follow q) d a a.0 (admitted F (T.follow q) (t.cls j) k.0 fo) sm in (x.0, d_again x.1)
  moves t u m q F (d_rep {l = l} {r = r} {j = j} d) a k fo sm =
      let p : _ = fair_rep S T C m q F l r k in
      let x : _ = moves t u m (Some l) (T.follow l) d (p.0, p.2, p.3, refl) p.0 (admitted F (T.follow l) (t.cls j) p.1 fo) sm in (x.0, d_rep x.1)
  moves t u {c = c} m q F (d_seq {r = r} {s = s} {j = j} k' ys zs d e eq) a k fo sm =
      let p : _ = fair_seq S T C m q F r s k in
      let loop : _ = clear_loop t S table G T C m c q a in
      let next : follows (behind_part S q s F) (t.cls k') ≡ true = elim (less_or_same k' j (forward t table S G e)) [
        | inl lt ↦ follows_first S q s F (t.cls k') (head t table S G e q loop p.1.1 lt)
        | inr same ↦ follows_end S q s F (t.cls k') (still t table S G e q loop p.1.1 same) (ap (λ n. follows F (t.cls n)) same ∙ fo)
      ] in
      let x : _ = moves t u m q (behind_part S q s F) d a p.0 next (λ n b c. sm n b (omega (arith, forward t table S G d, forward t table S G e))) in
      let y : _ = moves t u m q F e a p.1 fo (λ n b c. sm n (omega (arith, forward t table S G d)) c) in
      in_row k' x.0 y.0 x.1 y.1
  moves t u m q F (d_around {cs = cs} {ds = ds} {r = r} {i = i} k' g d g' s) a k fo sm =
      let x : _ = moves t u m q (Some ds) d a (fair_around S T C m q F cs ds r k) g' (λ n b c. sm n (omega arith) (omega (arith, s))) in
      (x.0, d_around k' (rw (← sm i (omega arith) (omega (arith, s, forward t table S G d))) g) x.1 (rw (← sm k' (omega (arith, forward t table S G d)) (omega (arith, s))) g') s)
  moves t u m q F (d_left {r = r} {s = s} d) a k fo sm = let x : _ = moves t u m q F d a (fair_alt S T C m q F r s k).0 fo sm in (x.0, d_left x.1)
  moves t u m q F (d_right {r = r} {s = s} d) a k fo sm = let x : _ = moves t u m q F d a (fair_alt S T C m q F r s k).1 fo sm in (x.0, d_right x.1)
  moves t u m q F (d_seen {w = w} {b = b} {cs = cs} {ds = ds} {r = r} {s = s} {i = i} {j = j} ys g g' d e) a k fo sm =
      let le : suc (suc i) ≤ j = forward t table S G d in
      let x : _ = moves t u m q F d a (fair_look S T C m q F w cs ds b r s k).0 fo (λ n b' c. sm n (omega arith) c) in
      (u.build b i j (u.leaf w i ∷ x.0), d_seen x.0 (rw (← sm i (omega arith) (omega arith)) g) (rw (← sm (suc i) (omega arith) (omega arith)) g') x.1 refl)
  moves t u m q F (d_unseen {w = w} {b = b} {cs = cs} {ds = ds} {r = r} {s = s} {i = i} {j = j} g d) a k fo sm = let x : _ = moves t u m q F d a (fair_look S T C m q F w cs ds b r s k).1 fo sm in (x.0, d_unseen (unlike_moves t u cs ds i j sm g) x.1)
  moves t u m q F (d_chosen {p = p} {r = r} {s = s} {i = i} {j = j} h d) a k fo sm =
      let x : _ = moves t u m q F d a (fair_choose S T C m q F p r s k).0 fo sm in
      (x.0, d_chosen (sym (same_choice S table G T C steady all_fair all_kept t m q F p r s (inl d) a k fo u.cls (λ n b c. sm n b (omega (arith, c)))) ∙ h) x.1)
  moves t u m q F (d_unchosen {p = p} {r = r} {s = s} {i = i} {j = j} h d) a k fo sm =
      let x : _ = moves t u m q F d a (fair_choose S T C m q F p r s k).1 fo sm in
      (x.0, d_unchosen (sym (same_choice S table G T C steady all_fair all_kept t m q F p r s (inr d) a k fo u.cls (λ n b c. sm n b (omega (arith, c)))) ∙ h) x.1)
  moves t u m q F (d_without e s) a k fo sm = ([], d_without refl s)
  moves t u m q F (d_with {r = r} d) a k fo sm = let x : _ = moves t u m q F d a (fair_opt S T C m q F r k) fo sm in (x.0, d_with x.1)
  moves t u m q F (d_barred {i = i} h e s) a k fo sm = ([], d_barred (rw (← sm i (omega arith) (omega (arith, s))) h) refl s)
  moves t u m q F (d_taken {cs = cs} {r = r} d) a k fo sm = let x : _ = moves t u m q F d a (fair_must S T C m q F cs r k).0 fo sm in (x.0, d_taken x.1)
  moves t u m q F (d_make {b = b} {i = i} {j = j} ys d s) a k fo sm = let x : _ = moves t u m q F d a k fo sm in (u.build b i j x.0, d_make x.0 x.1 refl)

  -- some words of the mode, after x, go on from j to a longer run, where nothing stands behind them
  abbrev pub Longer : Source K B N → Loop K B L → Rule K B L → ℕ → ℕ → ℕ → Type 0
  Longer t c r i j x = (w : List ℕ) × (each mode w ≡ true) × ((u : Source K B N) → Same t u i j → (e : ℕ) → Match u j (x ∷ w) e → u.cls e ≡ zero → (ys : List N) × Derives u table c r ys i e)

  -- the same for a rule that this one stands in
  raise : (t : Source K B N) (c c' : Loop K B L) (r r' : Rule K B L) (i j x : ℕ) → ((u : Source K B N) → Same t u i j → (e : ℕ) → u.cls j ≡ x → (ys : List N) → Derives u table c r ys i e → (zs : List N) × Derives u table c' r' zs i e) → Longer t c r i j x → Longer t c' r' i j x
  raise t c c' r r' i j x f l = (l.0, l.1, λ u sm e mt z. let y : _ = l.2 u sm e mt z in f u sm e mt.0 y.0 y.1)

  module _ (J : Bool → List ℕ → Bool) (st : Option ℕ) (js : (p : (ℕ → ℕ) → ℕ → Bool) → IsTest T st p → (b : Bool) (w : List ℕ) → J b w ≡ true → (u : Source K B N) (i e : ℕ) → Match u i w e → p u.cls i ≡ b)
      (t : Source K B N) (m x : ℕ) (in_mode : mode x ≡ true) (V : L → Option (List ℕ)) (W : L → ℕ → Option (List ℕ)) (E : L → ℕ → Bool)
      (v : (l : L) (w : List ℕ) → V l ≡ Some w → WordOf N table outside (table l) w) (b : (l : L) (y : ℕ) (w : List ℕ) → W l y ≡ Some w → WordOf N table outside (table l) (y ∷ w)) (e' : (l : L) (y : ℕ) → E l y ≡ true → Empty N table outside (table l) y) (full : (l : L) → C l ≡ true → T.follow l ≡ None → S.empty l ≡ true → E l zero ≡ true)
      (X : Bool → L → Rel N) (levels : (u : Bool) (l : L) → Good t (S.first l) (S.empty l) (S.more l) (X u l)) (ld : (u : Bool) (l : L) (o : Option ℕ) (xs : List N) (i j : ℕ) → X u l o xs i j → Derives t table outside (table l) xs i j) (lx : (u : Bool) (l : L) → C l ≡ true → T.follow l ≡ None → (xs : List N) (i j : ℕ) → t.cls j ≡ x → X u l None xs i j → X u l (Some x) xs i j ⊎ Longer t outside (table l) i j x) where
    -- a rule that can be empty is, where nothing stands behind it
    abbrev Hollow : Loop K B L → Option L → Type 0
    Hollow c q = empty_of S q ≡ true → Empty N table c again zero

    -- the level and its rule here, where any class may follow
    level_here : (l : L) → (C l && admits None (T.follow l)) ≡ true → (C l ≡ true) × (T.follow l ≡ None)
    level_here l h = let p : _ = and_both (C l) (admits None (T.follow l)) h in (p.0, admitted_any (T.follow l) p.1)

    -- the first part of a sequence, where the second can be empty
    first_here : (q : Option L) (r s : Rule K B L) → nul S q s ≡ true → Fair S T C st q None (seq r s) → Fair S T C st q None r
    first_here q r s e k = rw (behind_any S q s e) at (fair_seq S T C st q None r s k).0

    -- the loop in a rule, where any class may follow
    loop_here : (q : Option L) (l : L) (r : Rule K B L) → Fair S T C st q None (rep l r) → (Fair S T C st (Some l) None r) × (T.follow l ≡ None)
    loop_here q l r k = let p : _ = fair_rep S T C st q None l r k in let n : T.follow l ≡ None = admitted_any (T.follow l) p.1 in (rw n at p.0, n)

    vacant : (r : Rule K B L) (a : Option (List ℕ)) (q : Option L) (c : Loop K B L) → Hollow c q → Fair S T C st q None r → fruitful mode J V W E S a q r ≡ true → nul S q r ≡ true → Empty N table c r zero
    unfolding Empty
    vacant done a q c k p f h u i z = ([], d_done refl refl)
    vacant (mark cs) a q c k p f h u i z = cc
    vacant (word w cs) a q c k p f h u i z = cc
    vacant (ref l) a q c k p f h u i z = let y : _ = e' l zero (full l (level_here l p.0).0 (level_here l p.0).1 h) u i z in (y.0, d_ref y.1)
    vacant (deep l) a q c k p f h u i z = let y : _ = e' l zero (full l (level_here l p.0).0 (level_here l p.0).1 h) u i z in (y.0, d_deep y.1)
    vacant again a q c k p f h u i z = k h u i z
    vacant (seq r s) a q c k p f h u i z =
        let n : _ = and_both (nul S q r) (nul S q s) h in
        let g : _ = and_both (not (nul S q s) || fruitful mode J V W E S a q r) (fruitful mode J V W E S a q s) f in
        let y : _ = vacant r a q c k (first_here q r s n.1 p) (implied (nul S q s) (fruitful mode J V W E S a q r) g.0 n.1) n.0 u i z in
        let y' : _ = vacant s a q c k (fair_seq S T C st q None r s p).1 g.1 n.1 u i z in
        in_row i y.0 y'.0 y.1 y'.1
    vacant (around cs ds r) a q c k p f h u i z = cc
    vacant (alt r s) a q c k p f h u i z =
        let g : _ = and_both (fruitful mode J V W E S a q r) (fruitful mode J V W E S a q s) f in
        elim (or_either (nul S q r) (nul S q s) h) [
          | inl n ↦ let y : _ = vacant r a q c k (fair_alt S T C st q None r s p).0 g.0 n u i z in (y.0, d_left y.1)
          | inr n ↦ let y : _ = vacant s a q c k (fair_alt S T C st q None r s p).1 g.1 n u i z in (y.0, d_right y.1)
        ]
    vacant (look w cs ds b' r s) a q c k p f h u i z =
        let g : _ = and_both (is_word mode (some_word J V a r)) (fruitful mode J V W E S a q r && fruitful mode J V W E S a q s) f in
        let g' : _ = and_both (fruitful mode J V W E S a q r) (fruitful mode J V W E S a q s) g.1 in
        let y : _ = vacant s a q c k (fair_look S T C st q None w cs ds b' r s p).1 g'.1 h u i z in (y.0, d_unseen (λ is lt. absurd (omega (arith, lt))) y.1)
    vacant (choose t' r s) a q c k p f h u i z =
        let n : _ = told_parts S T C st q None st r s (fair_choose S T C st q None t' r s p).2 in
        elim (or_either (nul S q r) (nul S q s) h) [ inl y ↦ true_false (nul S q r) y n.0 | inr y ↦ true_false (nul S q s) y n.1 ]
    vacant (opt r) a q c k p f h u i z = ([], d_without refl refl)
    vacant (must cs r) a q c k p f h u i z = ([], d_barred (rw z (fair_must S T C st q None cs r p).1) refl refl)
    vacant (rep l r) a q c k p f h u i z =
        let g : _ = and_both (not (S.empty l) || hollow E r zero) (fruitful mode J V W E S (some_word J V None r) (Some l) r) f in
        let y : _ = hollow_sound N table E e' r (within l r) zero (implied (S.empty l) (hollow E r zero) g.0 h) u i z in (y.0, d_rep y.1)
    vacant (make w r) a q c k p f h u i z = let y : _ = vacant r a q c k p f h u i z in (u.build w i i y.0, d_make y.0 y.1 refl)

    longer_second : (q : Option L) (c : Loop K B L) (r s : Rule K B L) (i k j : ℕ) (ys : List N) → Fair_loop S T C st c q → Fair S T C st q (behind_part S q s None) r → follows (behind_part S q s None) (t.cls k) ≡ true → t.cls j ≡ x → i ≤ k → k ≤ j → Derives t table c r ys i k → Longer t c s k j x → Longer t c (seq r s) i j x
    longer_second q c r s i k j ys a p next here le le' d l = (
      l.0,
      l.1,
      λ u sm e mt ends.
          let y : _ = moves t u st q (behind_part S q s None) d a p next (λ n b c'. and_there t u i j sm (here ∙ sym mt.0) n b (omega (arith, c', le'))) in
          let z : _ = l.2 u (λ n b c'. sm n (omega (arith, b, le)) c') e mt ends in
          in_row k y.0 z.0 y.1 z.1,
    )

    longer_first : (c : Loop K B L) (r s : Rule K B L) (i k j : ℕ) → k ≡ j → Empty N table c s zero → Longer t c r i k x → Longer t c (seq r s) i j x
    unfolding Empty
    longer_first c r s i k j eq h l = (
      l.0,
      l.1,
      λ u sm e mt ends.
          let y : _ = l.2 u (λ n p q. sm n p (omega arith)) e (rw eq mt) ends in
          let z : _ = h u e ends in
          in_row e y.0 z.0 y.1 z.1,
    )

    longer_seen : (c : Loop K B L) (w : K) (b' : B) (cs ds : List ℕ) (r s : Rule K B L) (i j : ℕ) (v' : List ℕ) → each mode v' ≡ true → suc i ≡ j → has cs (t.cls i) ≡ true → has ds x ≡ true → WordOf N table c r v' → Longer t c (look w cs ds b' r s) i j x
    unfolding WordOf
    longer_seen c w b' cs ds r s i j v' md eq hc hd f = (
      v',
      md,
      λ u sm e mt ends.
          let mt' : Match u (suc i) (x ∷ v') e = rw eq mt in
          let z : _ = f u (suc (suc i)) e mt'.1 in
          (u.build b' i e (u.leaf w i ∷ z.0), d_seen z.0 (rw (← sm i (omega arith) (omega arith)) hc) (rw mt'.0 hd) z.1 refl),
    )

    word_run : (c : Loop K B L) (r : Rule K B L) (w : List ℕ) → WordOf N table c r w → (u : Source K B N) (i e : ℕ) → Match u i w e → (ys : List N) × Derives u table c r ys i e
    unfolding WordOf
    word_run c r w h = h

    word_again : (l : L) (r : Rule K B L) (w : List ℕ) → WordOf N table (within l r) r w → WordOf N table (within l r) again w
    unfolding WordOf
    word_again l r w h u i e mt = let z : _ = h u i e mt in (z.0, d_again z.1)

    empty_again : (l : L) (r : Rule K B L) → Empty N table (within l r) r zero → Empty N table (within l r) again zero
    unfolding Empty
    empty_again l r h u i ends = let z : _ = h u i ends in (z.0, d_again z.1)

    derives_rounds : (l : L) (r : Rule K B L) (F : Rel N → Rel N) → ((Y : Rel N) → ((o : Option ℕ) (xs : List N) (i j : ℕ) → Y o xs i j → Derives t table (within l r) again xs i j) → (o : Option ℕ) (xs : List N) (i j : ℕ) → F Y o xs i j → Derives t table (within l r) r xs i j) → (n : ℕ) (o : Option ℕ) (xs : List N) (i j : ℕ) → rounds (Never N) F n o xs i j → Derives t table (within l r) again xs i j
    derives_rounds l r F dF zero o xs i j d = absurd (omega (arith, d.no))
    derives_rounds l r F dF (suc n) o xs i j d = d_again (dF (rounds (Never N) F n) (derives_rounds l r F dF n) o xs i j d)

    extends_rounds : (l : L) (r : Rule K B L) (F : Rel N → Rel N) → ((Y : Rel N) → ((o : Option ℕ) (xs : List N) (i j : ℕ) → Y o xs i j → Derives t table (within l r) again xs i j) → (o : Option ℕ) (xs : List N) (i j : ℕ) → F Y o xs i j → Derives t table (within l r) r xs i j)
        → ((Y : Rel N) → Good t (S.first l) (S.empty l) (S.more l) Y → Good t (S.first l) (S.empty l) (S.more l) (F Y))
        → ((Y : Rel N) → Good t (S.first l) (S.empty l) (S.more l) Y → ((o : Option ℕ) (xs : List N) (i j : ℕ) → Y o xs i j → Derives t table (within l r) again xs i j) → ((xs : List N) (i j : ℕ) → t.cls j ≡ x → Y None xs i j → Y (Some x) xs i j ⊎ Longer t (within l r) again i j x) → (xs : List N) (i j : ℕ) → t.cls j ≡ x → F Y None xs i j → F Y (Some x) xs i j ⊎ Longer t (within l r) r i j x)
        → (n : ℕ) (xs : List N) (i j : ℕ) → t.cls j ≡ x → rounds (Never N) F n None xs i j → rounds (Never N) F n (Some x) xs i j ⊎ Longer t (within l r) r i j x
    extends_rounds l r F dF gF step zero xs i j here d = inl d
    extends_rounds l r F dF gF step (suc n) xs i j here d = step (rounds (Never N) F n) (good_rounds t (S.first l) (S.more l) (S.empty l) F gF n) (derives_rounds l r F dF n)
        (λ xs' i' j' here' d'. elim (extends_rounds l r F dF gF step n xs' i' j' here' d') [ inl y ↦ inl y | inr y ↦ inr (raise t (within l r) (within l r) r again i' j' x (λ u sm e at ys z. (ys, d_again z)) y) ]) xs i j here d

    look_other : (q : Option L) (A : Rel N) (c : Loop K B L) (w : K) (b' : B) (cs ds : List ℕ) (r s : Rule K B L) (xs : List N) (i j : ℕ) → i < j → Other t cs ds None i j → (has cs (t.cls i) ≡ true → suc i ≡ j → has ds x ≡ false) → Spelled t S m X A q s (Some x) xs i j ⊎ Longer t c s i j x → Spelled t S m X A q (look w cs ds b' r s) (Some x) xs i j ⊎ Longer t c (look w cs ds b' r s) i j x
    look_other q A c w b' cs ds r s xs i j lt0 g ok o = elim o [
      | inl y ↦ inl (inr (some_other, y))
      | inr y ↦ inr (raise t c c s (look w cs ds b' r s) i j x (λ u sm e at_j ys z. (ys, d_unseen (none_other u sm e at_j) z)) y)
    ]
      where
        some_other : Other t cs ds (Some x) i j
        some_other h = elim (less_or_same (suc i) j lt0) [ inl lt ↦ rw (ltb_less (suc i) j lt) (rw (ltb_less (suc i) j lt) at (g h)) | inr eq ↦ rw (ltb_same (suc i) j eq) (ok h eq) ]

        none_other : (u : Source K B N) → Same t u i j → (e : ℕ) → u.cls j ≡ x → Unlike u.cls cs ds i e
        none_other u sm e at_j h le =
            let h' : has cs (t.cls i) ≡ true = rw (sm i (omega arith) lt0) h in
            elim (less_or_same (suc i) j lt0) [
              | inl lt ↦ rw (← sm (suc i) (omega arith) lt) (rw (ltb_less (suc i) j lt) at (g h'))
              | inr eq ↦ rw (ap u.cls eq ∙ at_j) (ok h' eq)
            ]

    pub extends : (r : Rule K B L) (a : Option (List ℕ)) (q : Option L) (c : Loop K B L) (A : Rel N) → Good t (first_of S q) (empty_of S q) (more_of S q) A → ((o : Option ℕ) (xs : List N) (i j : ℕ) → A o xs i j → Derives t table c again xs i j) → ((xs : List N) (i j : ℕ) → t.cls j ≡ x → A None xs i j → A (Some x) xs i j ⊎ Longer t c again i j x)
        → ((w : List ℕ) → a ≡ Some w → WordOf N table c again w) → Hollow c q → Fair_loop S T C st c q → Fair S T C st q None r → fruitful mode J V W E S a q r ≡ true → (xs : List N) (i j : ℕ) → t.cls j ≡ x → Spelled t S m X A q r None xs i j → Spelled t S m X A q r (Some x) xs i j ⊎ Longer t c r i j x
    extends done a q c A ga ad ax ag hk fl k f xs i j here d = inl d
    extends (mark cs) a q c A ga ad ax ag hk fl k f xs i j here d = inl d
    extends (word w cs) a q c A ga ad ax ag hk fl k f xs i j here d = inl d
    extends (ref l) a q c A ga ad ax ag hk fl k f xs i j here d = elim (lx false l (level_here l k.0).0 (level_here l k.0).1 xs i j here d) [ inl y ↦ inl y | inr y ↦ inr (raise t outside c (table l) (ref l) i j x (λ u sm e at ys z. (ys, d_ref z)) y) ]
    extends (deep l) a q c A ga ad ax ag hk fl k f xs i j here d = elim (lx true l (level_here l k.0).0 (level_here l k.0).1 xs i j here d) [ inl y ↦ inl y | inr y ↦ inr (raise t outside c (table l) (deep l) i j x (λ u sm e at ys z. (ys, d_deep z)) y) ]
    extends again a q c A ga ad ax ag hk fl k f xs i j here d = ax xs i j here d
    extends (seq r s) a q c A ga ad ax ag hk fl k f xs i j here d =
        let p : _ = fair_seq S T C st q None r s k in
        let g : _ = and_both (not (nul S q s) || fruitful mode J V W E S a q r) (fruitful mode J V W E S a q s) f in
        let gr : Good t (first S q r) (nul S q r) (more S q r) (Spelled t S m X A q r) = good_rule t S m X levels r q A ga k.1.0 in
        let gs : Good t (first S q s) (nul S q s) (more S q s) (Spelled t S m X A q s) = good_rule t S m X levels s q A ga k.1.1 in
        let dr : Spelled t S m X A q r None d.1 i d.0 = rw part_none at d.3 in
        let next : follows (behind_part S q s None) (t.cls d.0) ≡ true = elim (less_or_same d.0 j (gs.order None d.2 d.0 j d.4)) [
          | inl lt ↦ follows_first S q s None (t.cls d.0) (gs.head None d.2 d.0 j d.4 lt)
          | inr eq ↦ follows_end S q s None (t.cls d.0) (gs.empty None d.2 d.0 j d.4 eq) refl
        ] in
        elim (extends s a q c A ga ad ax ag hk fl p.1 g.1 d.2 d.0 j here d.4) [
          | inr l ↦ inr (longer_second q c r s i d.0 j d.1 fl p.0 next here (gr.order None d.1 i d.0 dr) (gs.order None d.2 d.0 j d.4) (derived t table S m X ld r q c A ad None d.1 i d.0 dr) l)
          | inl ds ↦ elim (less_or_same d.0 j (gs.order None d.2 d.0 j d.4)) [
            | inl lt ↦ inl (d.0, d.1, d.2, rw (part_before d.0 j (Some x) lt) dr, ds, d.5)
            | inr eq ↦
                let n : nul S q s ≡ true = gs.empty None d.2 d.0 j d.4 eq in
                elim (extends r a q c A ga ad ax ag hk fl (first_here q r s n k) (implied (nul S q s) (fruitful mode J V W E S a q r) g.0 n) d.1 i d.0 (ap t.cls eq ∙ here) dr) [
                  | inl dr' ↦ inl (d.0, d.1, d.2, rw (part_end d.0 j (Some x) eq) dr', ds, d.5)
                  | inr l ↦ inr (longer_first c r s i d.0 j eq (vacant s a q c hk p.1 g.1 n) l)
                ]
          ]
        ]
    extends (around cs ds r) a q c A ga ad ax ag hk fl k f xs i j here d = inl d
    extends (alt r s) a q c A ga ad ax ag hk fl k f xs i j here d =
        let p : _ = fair_alt S T C st q None r s k in
        let g : _ = and_both (fruitful mode J V W E S a q r) (fruitful mode J V W E S a q s) f in
        elim d [
          | inl e ↦ elim (extends r a q c A ga ad ax ag hk fl p.0 g.0 xs i j here e) [ inl y ↦ inl (inl y) | inr y ↦ inr (raise t c c r (alt r s) i j x (λ u sm e at ys z. (ys, d_left z)) y) ]
          | inr e ↦ elim (extends s a q c A ga ad ax ag hk fl p.1 g.1 xs i j here e) [ inl y ↦ inl (inr y) | inr y ↦ inr (raise t c c s (alt r s) i j x (λ u sm e at ys z. (ys, d_right z)) y) ]
        ]
    extends (look w cs ds b' r s) a q c A ga ad ax ag hk fl k f xs i j here d =
        let p : _ = fair_look S T C st q None w cs ds b' r s k in
        let g : _ = and_both (is_word mode (some_word J V a r)) (fruitful mode J V W E S a q r && fruitful mode J V W E S a q s) f in
        let g' : _ = and_both (fruitful mode J V W E S a q r) (fruitful mode J V W E S a q s) g.1 in
        let p0 : _ = word_of mode (some_word J V a r) g.0 in
        let gr : Good t (first S q r) (nul S q r) (more S q r) (Spelled t S m X A q r) = good_rule t S m X levels r q A ga k.1.0 in
        let gs : Good t (first S q s) (nul S q s) (more S q s) (Spelled t S m X A q s) = good_rule t S m X levels s q A ga k.1.1 in
        let others : _ = extends s a q c A ga ad ax ag hk fl p.1 g'.1 xs i j here in
        elim d [
          | inl e ↦ elim (extends r a q c A ga ad ax ag hk fl p.0 g'.0 e.0 (suc (suc i)) j here e.3) [
            | inl y ↦ inl (inl (e.0, e.1, e.2, y, e.4))
            | inr y ↦ inr (y.0, y.1, longer_look y e.1 e.2 (gr.order None e.0 (suc (suc i)) j e.3))
          ]
          | inr e ↦ elim (less_or_same i j (gs.order None xs i j e.1)) [
            | inr eq ↦ true_false (nul S q s) (gs.empty None xs i j e.1 eq) k.1.2
            | inl lt0 ↦ elim (decide (has cs (t.cls i))) [
              | inr hc ↦ look_other q A c w b' cs ds r s xs i j lt0 e.0 (λ h. true_false (has cs (t.cls i)) h hc) (others e.1)
              | inl hc ↦ elim (decide (has ds x)) [
                | inr hd ↦ look_other q A c w b' cs ds r s xs i j lt0 e.0 (λ h eq. hd) (others e.1)
                | inl hd ↦ elim (less_or_same (suc i) j lt0) [
                  | inl lt ↦ look_other q A c w b' cs ds r s xs i j lt0 e.0 (λ h eq. absurd (omega (arith, eq, lt))) (others e.1)
                  | inr eq ↦ inr (longer_seen c w b' cs ds r s i j p0.0 p0.2 eq hc hd (some_sound N table J (IsTest T st) js V v r a c ag p.0.2 p0.0 p0.1))
                ]
              ]
            ]
          ]
        ]
      where
        longer_look : (y : Longer t c r (suc (suc i)) j x) → has cs (t.cls i) ≡ true → has ds (t.cls (suc i)) ≡ true → suc (suc i) ≤ j → (u : Source K B N) → Same t u i j → (e : ℕ) → Match u j (x ∷ y.0) e → u.cls e ≡ zero → (ys : List N) × Derives u table c (look w cs ds b' r s) ys i e
        longer_look y hc hd le u sm e mt ends =
            let z : _ = y.2 u (λ n p q. sm n (omega arith) q) e mt ends in
            (u.build b' i e (u.leaf w i ∷ z.0), d_seen z.0 (rw (← sm i (omega arith) (omega arith)) hc) (rw (← sm (suc i) (omega arith) (omega arith)) hd) z.1 refl)
    extends (choose p r s) a q c A ga ad ax ag hk fl k f xs i j here d =
        let y : _ = fair_choose S T C st q None p r s k in
        let g : _ = and_both (fruitful mode J V W E S a q r) (fruitful mode J V W E S a q s) f in
        elim d [
          | inl e ↦ elim (extends r a q c A ga ad ax ag hk fl y.0 g.0 xs i j here e.1) [
            | inl z ↦ inl (inl (e.0, z))
            | inr z ↦ inr (raise t c c r (choose p r s) i j x (λ u sm e' at ys w. (ys, d_chosen (sym (same u sm at (inl (derived t table S m X ld r q c A ad None xs i j e.1))) ∙ e.0) w)) z)
          ]
          | inr e ↦ elim (extends s a q c A ga ad ax ag hk fl y.1 g.1 xs i j here e.1) [
            | inl z ↦ inl (inr (e.0, z))
            | inr z ↦ inr (raise t c c s (choose p r s) i j x (λ u sm e' at ys w. (ys, d_unchosen (sym (same u sm at (inr (derived t table S m X ld s q c A ad None xs i j e.1))) ∙ e.0) w)) z)
          ]
        ]
      where
        same : (u : Source K B N) → Same t u i j → u.cls j ≡ x → Derives t table c r xs i j ⊎ Derives t table c s xs i j → p t.cls i ≡ p u.cls i
        same u sm at e = same_choice S table G T C steady all_fair all_kept t st q None p r s e fl k refl u.cls (λ n l l'. and_there t u i j sm (here ∙ sym at) n l (omega (arith, l')))
    extends (opt r) a q c A ga ad ax ag hk fl k f xs i j here d =
        let g : _ = and_both (each (λ y. not (mode y) || is_word mode (begun J V W E a r y)) (first S q r)) (fruitful mode J V W E S a q r) f in
        elim d [
          | inl e ↦ elim (decide (has (first S q r) x)) [ inr n ↦ inl (inl (e.0, e.1, n)) | inl y ↦ inr (started g.0 e.1 y) ]
          | inr e ↦ elim (extends r a q c A ga ad ax ag hk fl (fair_opt S T C st q None r k) g.1 xs i j here e) [ inl y ↦ inl (inr y) | inr y ↦ inr (raise t c c r (opt r) i j x (λ u sm e at ys z. (ys, d_with z)) y) ]
        ]
      where
        started : each (λ y. not (mode y) || is_word mode (begun J V W E a r y)) (first S q r) ≡ true → i ≡ j → has (first S q r) x ≡ true → Longer t c (opt r) i j x
        started g eq y =
            let w : _ = word_of mode (begun J V W E a r x) (implied (mode x) (is_word mode (begun J V W E a r x)) (each_at (λ y. not (mode y) || is_word mode (begun J V W E a r y)) (first S q r) g x y) in_mode) in
            (w.0, w.2, λ u sm e mt ends. let z : _ = start w.0 w.1 u e (rw eq mt) in (z.0, d_with z.1))
          where
            start : (w : List ℕ) → begun J V W E a r x ≡ Some w → (u : Source K B N) (e : ℕ) → Match u i (x ∷ w) e → (ys : List N) × Derives u table c r ys i e
            start w h u e mt = word_run c r (x ∷ w) (begun_sound N table J (IsTest T st) js V W E v b e' r a c ag k.2 x w h) u i e mt
    extends (must cs r) a q c A ga ad ax ag hk fl k f xs i j here d = elim d [
      | inl e ↦ inl (inl e)
      | inr e ↦ elim (extends r a q c A ga ad ax ag hk fl (fair_must S T C st q None cs r k).0 f xs i j here e) [ inl y ↦ inl (inr y) | inr y ↦ inr (raise t c c r (must cs r) i j x (λ u sm e at ys z. (ys, d_taken z)) y) ]
    ]
    extends (rep l r) a q c A ga ad ax ag hk fl k f xs i j here d =
        let g : _ = and_both (not (S.empty l) || hollow E r zero) (fruitful mode J V W E S (some_word J V None r) (Some l) r) f in
        let p : _ = fair_rep S T C st q None l r k in
        let n : _ = loop_here q l r k in
        elim (extends_rounds l r (λ Y. Spelled t S m X Y (Some l) r)
        (λ Y yd. derived t table S m X ld r (Some l) (within l r) Y yd)
        (λ Y gy. good_within t (first S (Some l) r) (S.first l) (more S (Some l) r) (S.more l) (nul S (Some l) r) (S.empty l) _ (good_rule t S m X levels r (Some l) Y gy k.1.0) k.1.1.first k.1.1.more k.1.1.empty)
        (λ Y gy yd yx. extends r (some_word J V None r) (Some l) (within l r) Y gy yd yx (λ w' h. word_again l r w' (some_sound N table J (IsTest T st) js V v r None (within l r) (λ w'' n'. no_some w'' n') k.2 w' h)) (λ h. empty_again l r (hollow_sound N table E e' r (within l r) zero (implied (S.empty l) (hollow E r zero) g.0 h))) (p.0, p.2, p.3, refl) n.0 g.1) m xs i j here d) [
          | inl y ↦ inl y
          | inr y ↦ inr (raise t (within l r) c r (rep l r) i j x (λ u sm e at ys z. (ys, d_rep z)) y)
        ]
    extends (make w r) a q c A ga ad ax ag hk fl k f xs i j here d = elim (extends r a q c A ga ad ax ag hk fl k f d.0 i j here d.1) [ inl y ↦ inl (d.0, y, d.2) | inr y ↦ inr (raise t c c r (make w r) i j x (λ u sm e at ys z. (u.build w i e ys, d_make ys z refl)) y) ]
