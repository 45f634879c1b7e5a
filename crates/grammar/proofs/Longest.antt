-- A run that the token in hand can't go on with is the longest, in each token list that agrees up to and with that token.
use Rattle.std.proofs.Common.{◌≡◌, refl, ap, ℕ, zero, suc, ◌<◌, ◌≤◌, List, [], arith, sym, ◌∙◌, inl, inr}
use Rattle.std.specs.Prelude.{Bool, true, false, cond, Option, Some, None, ◌⊎◌, ltb}
use Rattle.grammar.specs.Rule.{Rule, done, mark, word, ref, deep, again, seq, around, alt, look, choose, opt, must, rep, make, has, Source, Table, Loop, outside, within, Derives, d_again}
use Rattle.grammar.specs.Sets.{Sets, nul, first, more, first_of, more_of, empty_of}
use Rattle.grammar.specs.Tests.{Tests, targets, arms}
use Rattle.grammar.specs.Check.{each, within_set, follows, admits, behind_part, follow_of, keeps}
use Rattle.grammar.proofs.Facts.{true_false, and_both, ltb_less, ltb_same, less_or_same, Apart, Within}
use Rattle.grammar.proofs.Spelled.{Rel, part, Other, rounds, Never, Spelled, Ladder, pick, Level, IsGrammar}
use Rattle.grammar.proofs.Good.{Good, Seq, Around, Alt, Look, Choose, Must, Opt, Make, part_before, part_end, good_rule, good_never, good_within, good_pick, good_ladder, good_level}
use Rattle.grammar.proofs.Meaning.{derived, pick_derived, ladder_derived, level_derived}
use Rattle.grammar.proofs.Fair.{admitted, follows_first, follows_end, Fair, Fair_loop, fair_seq, fair_around, fair_alt, fair_look, fair_choose, fair_opt, fair_must, fair_rep, same_choice}

-- two token lists agree up to and with n
unfoldable pub Agrees : {K B N : Type 0} → Source K B N → Source K B N → ℕ → Type 0
Agrees t u n = (k : ℕ) → k ≤ n → t.cls k ≡ u.cls k

agreed : {K B N : Type 0} (t u : Source K B N) (n : ℕ) → Agrees t u n → (k : ℕ) → k ≤ n → t.cls k ≡ u.cls k
unfolding Agrees
agreed t u n a = a

turned : {K B N : Type 0} (t u : Source K B N) (n : ℕ) → Agrees t u n → Agrees u t n
unfolding Agrees
turned t u n a k h = sym (a k h)

shorter : {K B N : Type 0} (t u : Source K B N) (n m : ℕ) → m ≤ n → Agrees t u n → Agrees t u m
unfolding Agrees
shorter t u n m h a k le = a k (omega arith)

seen : {K B N : Type 0} (t u : Source K B N) (n : ℕ) → Agrees t u n → (k : ℕ) → k ≤ n → (cs : List ℕ) (b : Bool) → has cs (u.cls k) ≡ b → has cs (t.cls k) ≡ b
unfolding Agrees
seen t u n ag k le cs b h = rw (ag k le) h

-- F may follow the one run; then the other is not longer
abbrev Ends : {K B N : Type 0} → Source K B N → Source K B N → Option (List ℕ) → Rel N → Rel N → Type 0
Ends {N = N} t u F X Y = (xs ys : List N) (i j k : ℕ) → follows F (t.cls j) ≡ true → Agrees t u j → X (Some (t.cls j)) xs i j → Y None ys i k → k ≤ j

pub record Longest {K B N : Type 0} (t u : Source K B N) (F : Option (List ℕ)) (X Y : Rel N) : Type 0 where
  pub forth : Ends t u F X Y
  pub back : Ends u t F Y X

wider : {K B N : Type 0} (t u : Source K B N) (F G : Option (List ℕ)) (X Y : Rel N) → admits F G ≡ true → Longest t u G X Y → Longest t u F X Y
wider t u F G X Y h l = record {
  forth = λ xs ys i j k fo. l.forth xs ys i j k (admitted F G (t.cls j) h fo);
  back = λ xs ys i j k fo. l.back xs ys i j k (admitted F G (u.cls j) h fo);
}

swap : {K B N : Type 0} (t u : Source K B N) (F : Option (List ℕ)) (X Y : Rel N) → Longest t u F X Y → Longest u t F Y X
swap t u F X Y l = record { forth = l.back; back = l.forth }

rounds_hold : {N : Type 0} (P : Rel N → Type 0) (Y : Rel N → Rel N) → P (Never N) → ((X : Rel N) → P X → P (Y X)) → (n : ℕ) → P (rounds (Never N) Y n)
rounds_hold {N = N} P Y never step zero = never
rounds_hold {N = N} P Y never step (suc n) = step (rounds (Never N) Y n) (rounds_hold P Y never step n)

module _ {K B N : Type 0} where
  -- what the first part of a sequence is asked is that the token in hand can't go on with it
  joined : (t : Source K B N) (f f' g g' : List ℕ) (e e' : Bool) (X Y : Rel N) → Good t f e g X → Good t f' e' g' Y → Apart g f' → (o : Option ℕ) (k j : ℕ) (ys zs : List N) (i : ℕ) → (k ≡ j → o ≡ Some (t.cls k)) → X (part k j o) ys i k → Y o zs k j → X (Some (t.cls k)) ys i k
  joined t f f' g g' e e' X Y x y apart o k j ys zs i w d c = elim (less_or_same k j (y.order o zs k j c)) [
    | inl p ↦ x.closed ys i k (t.cls k) (rw (part_before k j o p) at d) (apart (t.cls k) (y.head o zs k j c p))
    | inr p ↦ rw (w p) at (rw (part_end k j o p) at d)
  ]

  ends_seq : (t u : Source K B N) (F G : Option (List ℕ)) (f f' g g' : List ℕ) (e e' : Bool) (X Y X' Y' : Rel N) → ((c : ℕ) → has f' c ≡ true → follows G c ≡ true) → ((c : ℕ) → e' ≡ true → follows F c ≡ true → follows G c ≡ true) → Good t f e g X → Good t f' e' g' Y → Good u f e g X' → Good u f' e' g' Y' → Apart g f' → Longest t u G X X' → Longest t u F Y Y' → Ends t u F (Seq X Y) (Seq X' Y')
  ends_seq t u F G f f' g g' e e' X Y X' Y' before end x y x' y' apart a b xs ys i j k fo ag d c =
      let dx : X (Some (t.cls d.0)) d.1 i d.0 = joined t f f' g g' e e' X Y x y apart (Some (t.cls j)) d.0 j d.1 d.2 i (λ p. ap (λ n. Some (t.cls n)) (sym p)) d.3 d.4 in
      let below : d.0 ≤ j = y.order (Some (t.cls j)) d.2 d.0 j d.4 in
      let cx : X' None c.1 i c.0 = x'.forget (part c.0 k None) c.1 i c.0 c.3 in
      let next : follows G (t.cls d.0) ≡ true = elim (less_or_same d.0 j below) [
        | inl p ↦ before (t.cls d.0) (y.head (Some (t.cls j)) d.2 d.0 j d.4 p)
        | inr p ↦ end (t.cls d.0) (y.empty (Some (t.cls j)) d.2 d.0 j d.4 p) (ap (λ n. follows F (t.cls n)) p ∙ fo)
      ] in
      let first_end : c.0 ≤ d.0 = a.forth d.1 c.1 i d.0 c.0 next (shorter t u j d.0 below ag) dx cx in
      elim (less_or_same c.0 k (y'.order None c.2 c.0 k c.4)) [
        | inl p ↦ second p dx below cx first_end
        | inr p ↦ omega (arith, p, first_end, below)
      ]
    where
      second : c.0 < k → X (Some (t.cls d.0)) d.1 i d.0 → d.0 ≤ j → X' None c.1 i c.0 → c.0 ≤ d.0 → k ≤ j
      second p dx below cx fe =
          let begins : has f' (u.cls c.0) ≡ true = y'.head None c.2 c.0 k c.4 p in
          let closed : X' (Some (u.cls c.0)) c.1 i c.0 = x'.closed c.1 i c.0 (u.cls c.0) cx (apart (u.cls c.0) begins) in
          let le : d.0 ≤ c.0 = a.back c.1 d.1 i c.0 d.0 (before (u.cls c.0) begins) (turned t u c.0 (shorter t u j c.0 (omega (arith, fe, below)) ag)) closed (x.forget (Some (t.cls d.0)) d.1 i d.0 dx) in
          let same : c.0 ≡ d.0 = omega (arith, le, fe) in
          b.forth d.2 c.2 d.0 j k fo ag d.4 (rw same at c.4)

  nonempty : (t : Source K B N) (f g : List ℕ) (e : Bool) (X : Rel N) → Good t f e g X → e ≡ false → (o : Option ℕ) (xs : List N) (i j : ℕ) → X o xs i j → i < j
  nonempty t f g e X x ne o xs i j d = elim (less_or_same i j (x.order o xs i j d)) [ inl p ↦ p | inr p ↦ true_false e (x.empty o xs i j d p) ne ]

  ends_alt : (t u : Source K B N) (F : Option (List ℕ)) (f f' g g' : List ℕ) (e e' : Bool) (X Y X' Y' : Rel N) → Good t f e g X → Good t f' e' g' Y → Good u f e g X' → Good u f' e' g' Y' → e ≡ false → e' ≡ false → Apart f f' → Longest t u F X X' → Longest t u F Y Y' → Ends t u F (Alt X Y) (Alt X' Y')
  ends_alt t u F f f' g g' e e' X Y X' Y' x y x' y' ne ne' apart a b xs ys i j k fo ag d c = elim d [
    | inl p ↦ elim c [ inl q ↦ a.forth xs ys i j k fo ag p q | inr q ↦ left_right p q ]
    | inr p ↦ elim c [ inl q ↦ right_left p q | inr q ↦ b.forth xs ys i j k fo ag p q ]
  ]
    where
      left_right : X (Some (t.cls j)) xs i j → Y' None ys i k → k ≤ j
      left_right p q =
          let lt : i < j = nonempty t f g e X x ne (Some (t.cls j)) xs i j p in
          true_false (has f (t.cls i)) (x.head (Some (t.cls j)) xs i j p lt) (apart (t.cls i) (seen t u j ag i (omega arith) f' true (y'.head None ys i k q (nonempty u f' g' e' Y' y' ne' None ys i k q))))

      right_left : Y (Some (t.cls j)) xs i j → X' None ys i k → k ≤ j
      right_left p q =
          let lt : i < j = nonempty t f' g' e' Y y ne' (Some (t.cls j)) xs i j p in
          true_false (has f (t.cls i)) (seen t u j ag i (omega arith) f true (x'.head None ys i k q (nonempty u f g e X' x' ne None ys i k q))) (apart (t.cls i) (y.head (Some (t.cls j)) xs i j p lt))

  ends_around : (t u : Source K B N) (F : Option (List ℕ)) (cs ds f g : List ℕ) (e : Bool) (X X' : Rel N) → Good t f e g X → Good u f e g X' → Apart g ds → Longest t u (Some ds) X X' → Ends t u F (Around t cs ds X) (Around u cs ds X')
  ends_around t u F cs ds f g e X X' x x' apart a xs ys i j k fo ag d c =
      let below : suc d.0 ≤ j = omega (arith, d.4) in
      let inner : c.0 ≤ d.0 = a.forth xs ys (suc i) d.0 c.0 d.3 (shorter t u j d.0 (omega arith) ag) (x.closed xs (suc i) d.0 (t.cls d.0) d.2 (apart (t.cls d.0) d.3)) c.2 in
      omega (arith, c.4, inner, below)

  ends_look : (t u : Source K B N) (F : Option (List ℕ)) (w : K) (cs ds : List ℕ) (b : B) (f f' g g' : List ℕ) (e e' : Bool) (X Y X' Y' : Rel N) → Good t f e g X → Good t f' e' g' Y → Good u f e g X' → Good u f' e' g' Y' → e' ≡ false → Longest t u F X X' → Longest t u F Y Y' → Ends t u F (Look t w cs ds b X Y) (Look u w cs ds b X' Y')
  ends_look t u F w cs ds b f f' g g' e e' X Y X' Y' x y x' y' ne' a c xs ys i j k fo ag d h = elim d [
    | inl p ↦ elim h [ inl q ↦ a.forth p.0 q.0 (suc (suc i)) j k fo ag p.3 q.3 | inr q ↦ left_right p.1 p.2 (x.order (Some (t.cls j)) p.0 (suc (suc i)) j p.3) q.0 q.1 ]
    | inr p ↦ elim h [ inl q ↦ right_left p.0 p.1 q.1 q.2 | inr q ↦ c.forth xs ys i j k fo ag p.1 q.1 ]
  ]
    where
      left_right : has cs (t.cls i) ≡ true → has ds (t.cls (suc i)) ≡ true → suc (suc i) ≤ j → Other u cs ds None i k → Y' None ys i k → k ≤ j
      left_right hc hd le o q = elim (less_or_same (suc i) k (nonempty u f' g' e' Y' y' ne' None ys i k q)) [
        | inl lt ↦ true_false (has ds (t.cls (suc i))) hd (seen t u j ag (suc i) (omega arith) ds false (rw (ltb_less (suc i) k lt) at (o (seen u t j (turned t u j ag) i (omega arith) cs true hc))))
        | inr eq ↦ omega (arith, eq, le)
      ]

      right_left : Other t cs ds (Some (t.cls j)) i j → Y (Some (t.cls j)) xs i j → has cs (u.cls i) ≡ true → has ds (u.cls (suc i)) ≡ true → k ≤ j
      right_left o p hc hd =
          let lt : i < j = nonempty t f' g' e' Y y ne' (Some (t.cls j)) xs i j p in
          true_false (has ds (t.cls (suc i))) (seen t u j ag (suc i) lt ds true hd) (ahead i j lt (o (seen t u j ag i (y.order (Some (t.cls j)) xs i j p) cs true hc)))
        where
          ahead : (i j : ℕ) → i < j → cond (ltb (suc i) j) (has ds (t.cls (suc i)) ≡ false) (has ds (t.cls j) ≡ false) → has ds (t.cls (suc i)) ≡ false
          ahead i j lt h = elim (less_or_same (suc i) j lt) [ inl p ↦ rw (ltb_less (suc i) j p) at h | inr p ↦ rw (← ap t.cls p) at (rw (ltb_same (suc i) j p) at h) ]

  ends_opt : (t u : Source K B N) (F : Option (List ℕ)) (f g : List ℕ) (e : Bool) (X X' : Rel N) → Good t f e g X → Good u f e g X' → e ≡ false → Longest t u F X X' → Ends t u F (Opt f X) (Opt f X')
  ends_opt t u F f g e X X' x x' ne a xs ys i j k fo ag d c = elim d [
    | inl p ↦ elim c [ inl q ↦ omega (arith, p.1, q.1) | inr q ↦ clash p.1 p.2 q ]
    | inr p ↦ elim c [ inl q ↦ omega (arith, q.1, x.order (Some (t.cls j)) xs i j p) | inr q ↦ a.forth xs ys i j k fo ag p q ]
  ]
    where
      clash : i ≡ j → has f (t.cls j) ≡ false → X' None ys i k → k ≤ j
      clash s h q = true_false (has f (t.cls j)) (seen t u j ag j (omega arith) f true (rw s at (x'.head None ys i k q (nonempty u f g e X' x' ne None ys i k q)))) h

  ends_must : (t u : Source K B N) (F : Option (List ℕ)) (cs f g : List ℕ) (e : Bool) (X X' : Rel N) → Good t f e g X → Good u f e g X' → e ≡ false → Within f cs → Longest t u F X X' → Ends t u F (Must t cs X) (Must u cs X')
  ends_must t u F cs f g e X X' x x' ne sub a xs ys i j k fo ag d c = elim d [
    | inl p ↦ elim c [ inl q ↦ omega (arith, p.2, q.2) | inr q ↦ clash p.0 p.2 q ]
    | inr p ↦ elim c [ inl q ↦ omega (arith, q.2, x.order (Some (t.cls j)) xs i j p) | inr q ↦ a.forth xs ys i j k fo ag p q ]
  ]
    where
      clash : has cs (t.cls i) ≡ false → i ≡ j → X' None ys i k → k ≤ j
      clash h s q = true_false (has cs (t.cls i)) (seen t u j ag i (omega (arith, s)) cs true (sub (u.cls i) (x'.head None ys i k q (nonempty u f g e X' x' ne None ys i k q)))) h

  ends_choose : (t u : Source K B N) (F : Option (List ℕ)) (p : (ℕ → ℕ) → ℕ → Bool) (X Y X' Y' : Rel N) → ((xs : List N) (i j : ℕ) → follows F (t.cls j) ≡ true → Agrees t u j → X (Some (t.cls j)) xs i j ⊎ Y (Some (t.cls j)) xs i j → p t.cls i ≡ p u.cls i) → Longest t u F X X' → Longest t u F Y Y' → Ends t u F (Choose t p X Y) (Choose u p X' Y')
  ends_choose t u F p X Y X' Y' same a b xs ys i j k fo ag d c = elim d [
    | inl x ↦ elim c [ inl y ↦ a.forth xs ys i j k fo ag x.1 y.1 | inr y ↦ true_false (p t.cls i) x.0 (same xs i j fo ag (inl x.1) ∙ y.0) ]
    | inr x ↦ elim c [ inl y ↦ true_false (p t.cls i) (same xs i j fo ag (inr x.1) ∙ y.0) x.0 | inr y ↦ b.forth xs ys i j k fo ag x.1 y.1 ]
  ]

  ends_make : (t u : Source K B N) (F : Option (List ℕ)) (b b' : ℕ → ℕ → List N → List N) (X X' : Rel N) → Longest t u F X X' → Ends t u F (Make b X) (Make b' X')
  ends_make t u F b b' X X' a xs ys i j k fo ag d c = a.forth d.0 c.0 i j k fo ag d.1 c.1

  longest_never : (t u : Source K B N) (F : Option (List ℕ)) (X : Rel N) → Longest t u F (Never N) X
  longest_never t u F X = record {
    forth = λ xs ys i j k fo ag d c. absurd (omega (arith, d.no));
    back = λ xs ys i j k fo ag d c. absurd (omega (arith, c.no));
  }

  -- loops of any numbers of rounds
  longest_rounds : (t u : Source K B N) (F : Option (List ℕ)) (P P' : Rel N → Type 0) (Y Y' : Rel N → Rel N) → P (Never N) → P' (Never N) → ((X : Rel N) → P X → P (Y X)) → ((X : Rel N) → P' X → P' (Y' X))
      → ((X X' : Rel N) → P X → P' X' → Longest t u F X X' → Longest t u F (Y X) (Y' X')) → (n n' : ℕ) → Longest t u F (rounds (Never N) Y n) (rounds (Never N) Y' n')
  longest_rounds t u F P P' Y Y' never never' good good' step zero n' = longest_never t u F (rounds (Never N) Y' n')
  longest_rounds t u F P P' Y Y' never never' good good' step (suc n) zero = swap u t F (Never N) (rounds (Never N) Y (suc n)) (longest_never u t F (rounds (Never N) Y (suc n)))
  longest_rounds t u F P P' Y Y' never never' good good' step (suc n) (suc n') = step (rounds (Never N) Y n) (rounds (Never N) Y' n') (rounds_hold P Y never good n) (rounds_hold P' Y' never' good' n') (longest_rounds t u F P P' Y Y' never never' good good' step n n')

module _ {K B L N : Type 0} (t u : Source K B N) (S : Sets L) (table : Table K B L) (G : IsGrammar S table) (T : Tests L) (C : L → Bool) (steady : each (λ a. within_set (targets (arms T.automaton a)) T.states) T.states ≡ true)
    (all_fair : (l : L) → C l ≡ true → Fair S T C (T.start l) None (T.follow l) (table l)) (all_kept : (l : L) → C l ≡ true → keeps T None l (table l) ≡ true) (m m' : ℕ) where
  -- a relation that gives derivations of a rule
  abbrev Derived : Source K B N → Loop K B L → Rule K B L → Rel N → Type 0
  Derived v c r X = (o : Option ℕ) (xs : List N) (i j : ℕ) → X o xs i j → Derives v table c r xs i j

  module _ (V V' : Bool → L → Rel N) (levels : (v : Bool) (l : L) → Good t (S.first l) (S.empty l) (S.more l) (V v l)) (levels' : (v : Bool) (l : L) → Good u (S.first l) (S.empty l) (S.more l) (V' v l)) (ld : (v : Bool) (l : L) → Derived t outside (table l) (V v l)) (ld' : (v : Bool) (l : L) → Derived u outside (table l) (V' v l)) (longest : (v : Bool) (l : L) → C l ≡ true → Longest t u (T.follow l) (V v l) (V' v l)) where
    longest_rule : (r : Rule K B L) (st : Option ℕ) (q : Option L) (F : Option (List ℕ)) (c : Loop K B L) (A A' : Rel N) → Good t (first_of S q) (empty_of S q) (more_of S q) A → Good u (first_of S q) (empty_of S q) (more_of S q) A' → Derived t c again A → Derived u c again A' → Fair_loop S T C st c q → Longest t u (follow_of T q) A A' → Fair S T C st q F r → Longest t u F (Spelled t S m V A q r) (Spelled u S m' V' A' q r)
    longest_rule done st q F c A A' a a' ad ad' fl b k = record {
      forth = λ xs ys i j n fo ag d e. omega (arith, d.1, e.1);
      back = λ xs ys i j n fo ag d e. omega (arith, d.1, e.1);
    }
    longest_rule (mark cs) st q F c A A' a a' ad ad' fl b k = record {
      forth = λ xs ys i j n fo ag d e. omega (arith, d.2, e.2);
      back = λ xs ys i j n fo ag d e. omega (arith, d.2, e.2);
    }
    longest_rule (word w cs) st q F c A A' a a' ad ad' fl b k = record {
      forth = λ xs ys i j n fo ag d e. omega (arith, d.2, e.2);
      back = λ xs ys i j n fo ag d e. omega (arith, d.2, e.2);
    }
    longest_rule (ref l) st q F c A A' a a' ad ad' fl b k = let p : _ = and_both (C l) (admits F (T.follow l)) k.0 in wider t u F (T.follow l) _ _ p.1 (longest false l p.0)
    longest_rule (deep l) st q F c A A' a a' ad ad' fl b k = let p : _ = and_both (C l) (admits F (T.follow l)) k.0 in wider t u F (T.follow l) _ _ p.1 (longest true l p.0)
    longest_rule again st q F c A A' a a' ad ad' fl b k = wider t u F (follow_of T q) _ _ k.0 b
    longest_rule (seq r s) st q F c A A' a a' ad ad' fl b k =
        let p : _ = fair_seq S T C st q F r s k in
        let gr = good_rule t S m V levels r q A a k.1.0 in
        let gs = good_rule t S m V levels s q A a k.1.1 in
        let gr' = good_rule u S m' V' levels' r q A' a' k.1.0 in
        let gs' = good_rule u S m' V' levels' s q A' a' k.1.1 in
        let R : Option (List ℕ) = behind_part S q s F in
        let lr : Longest t u R (Spelled t S m V A q r) (Spelled u S m' V' A' q r) = longest_rule r st q R c A A' a a' ad ad' fl b p.0 in
        let ls : Longest t u F (Spelled t S m V A q s) (Spelled u S m' V' A' q s) = longest_rule s st q F c A A' a a' ad ad' fl b p.1 in
        record {
          forth = ends_seq t u F R (first S q r) (first S q s) (more S q r) (more S q s) (nul S q r) (nul S q s) _ _ _ _ (follows_first S q s F) (follows_end S q s F) gr gs gr' gs' k.1.2 lr ls;
          back = ends_seq u t F R (first S q r) (first S q s) (more S q r) (more S q s) (nul S q r) (nul S q s) _ _ _ _ (follows_first S q s F) (follows_end S q s F) gr' gs' gr gs k.1.2 (swap t u R _ _ lr) (swap t u F _ _ ls);
        }
    longest_rule (around cs ds r) st q F c A A' a a' ad ad' fl b k =
        let gr = good_rule t S m V levels r q A a k.1.0 in
        let gr' = good_rule u S m' V' levels' r q A' a' k.1.0 in
        let lr : Longest t u (Some ds) (Spelled t S m V A q r) (Spelled u S m' V' A' q r) = longest_rule r st q (Some ds) c A A' a a' ad ad' fl b (fair_around S T C st q F cs ds r k) in
        record {
          forth = ends_around t u F cs ds (first S q r) (more S q r) (nul S q r) _ _ gr gr' k.1.1 lr;
          back = ends_around u t F cs ds (first S q r) (more S q r) (nul S q r) _ _ gr' gr k.1.1 (swap t u (Some ds) _ _ lr);
        }
    longest_rule (alt r s) st q F c A A' a a' ad ad' fl b k =
        let p : _ = fair_alt S T C st q F r s k in
        let gr = good_rule t S m V levels r q A a k.1.0 in
        let gs = good_rule t S m V levels s q A a k.1.1 in
        let gr' = good_rule u S m' V' levels' r q A' a' k.1.0 in
        let gs' = good_rule u S m' V' levels' s q A' a' k.1.1 in
        let lr : Longest t u F (Spelled t S m V A q r) (Spelled u S m' V' A' q r) = longest_rule r st q F c A A' a a' ad ad' fl b p.0 in
        let ls : Longest t u F (Spelled t S m V A q s) (Spelled u S m' V' A' q s) = longest_rule s st q F c A A' a a' ad ad' fl b p.1 in
        record {
          forth = ends_alt t u F (first S q r) (first S q s) (more S q r) (more S q s) (nul S q r) (nul S q s) _ _ _ _ gr gs gr' gs' k.1.2 k.1.3 k.1.4 lr ls;
          back = ends_alt u t F (first S q r) (first S q s) (more S q r) (more S q s) (nul S q r) (nul S q s) _ _ _ _ gr' gs' gr gs k.1.2 k.1.3 k.1.4 (swap t u F _ _ lr) (swap t u F _ _ ls);
        }
    longest_rule (look w cs ds v r s) st q F c A A' a a' ad ad' fl b k =
        let p : _ = fair_look S T C st q F w cs ds v r s k in
        let gr = good_rule t S m V levels r q A a k.1.0 in
        let gs = good_rule t S m V levels s q A a k.1.1 in
        let gr' = good_rule u S m' V' levels' r q A' a' k.1.0 in
        let gs' = good_rule u S m' V' levels' s q A' a' k.1.1 in
        let lr : Longest t u F (Spelled t S m V A q r) (Spelled u S m' V' A' q r) = longest_rule r st q F c A A' a a' ad ad' fl b p.0 in
        let ls : Longest t u F (Spelled t S m V A q s) (Spelled u S m' V' A' q s) = longest_rule s st q F c A A' a a' ad ad' fl b p.1 in
        record {
          forth = ends_look t u F w cs ds v (first S q r) (first S q s) (more S q r) (more S q s) (nul S q r) (nul S q s) _ _ _ _ gr gs gr' gs' k.1.2 lr ls;
          back = ends_look u t F w cs ds v (first S q r) (first S q s) (more S q r) (more S q s) (nul S q r) (nul S q s) _ _ _ _ gr' gs' gr gs k.1.2 (swap t u F _ _ lr) (swap t u F _ _ ls);
        }
    longest_rule (choose p r s) st q F c A A' a a' ad ad' fl b k =
        let y : _ = fair_choose S T C st q F p r s k in
        let lr : Longest t u F (Spelled t S m V A q r) (Spelled u S m' V' A' q r) = longest_rule r st q F c A A' a a' ad ad' fl b y.0 in
        let ls : Longest t u F (Spelled t S m V A q s) (Spelled u S m' V' A' q s) = longest_rule s st q F c A A' a a' ad ad' fl b y.1 in
        record {
          forth = ends_choose t u F p _ _ _ _ same lr ls;
          back = ends_choose u t F p _ _ _ _ same' (swap t u F _ _ lr) (swap t u F _ _ ls);
        }
      where
        same : (xs : List N) (i j : ℕ) → follows F (t.cls j) ≡ true → Agrees t u j → Spelled t S m V A q r (Some (t.cls j)) xs i j ⊎ Spelled t S m V A q s (Some (t.cls j)) xs i j → p t.cls i ≡ p u.cls i
        same xs i j fo ag d = same_choice S table G T C steady all_fair all_kept t st q F p r s (elim d [ inl x ↦ inl (derived t table S m V ld r q c A ad (Some (t.cls j)) xs i j x) | inr x ↦ inr (derived t table S m V ld s q c A ad (Some (t.cls j)) xs i j x) ]) fl k fo u.cls (λ n l l'. agreed t u j ag n l')

        same' : (xs : List N) (i j : ℕ) → follows F (u.cls j) ≡ true → Agrees u t j → Spelled u S m' V' A' q r (Some (u.cls j)) xs i j ⊎ Spelled u S m' V' A' q s (Some (u.cls j)) xs i j → p u.cls i ≡ p t.cls i
        same' xs i j fo ag d = same_choice S table G T C steady all_fair all_kept u st q F p r s (elim d [ inl x ↦ inl (derived u table S m' V' ld' r q c A' ad' (Some (u.cls j)) xs i j x) | inr x ↦ inr (derived u table S m' V' ld' s q c A' ad' (Some (u.cls j)) xs i j x) ]) fl k fo t.cls (λ n l l'. agreed u t j ag n l')
    longest_rule (must cs r) st q F c A A' a a' ad ad' fl b k =
        let p : _ = fair_must S T C st q F cs r k in
        let gr = good_rule t S m V levels r q A a k.1.0 in
        let gr' = good_rule u S m' V' levels' r q A' a' k.1.0 in
        let lr : Longest t u F (Spelled t S m V A q r) (Spelled u S m' V' A' q r) = longest_rule r st q F c A A' a a' ad ad' fl b p.0 in
        record {
          forth = ends_must t u F cs (first S q r) (more S q r) (nul S q r) _ _ gr gr' k.1.1 k.1.2 lr;
          back = ends_must u t F cs (first S q r) (more S q r) (nul S q r) _ _ gr' gr k.1.1 k.1.2 (swap t u F _ _ lr);
        }
    longest_rule (opt r) st q F c A A' a a' ad ad' fl b k =
        let gr = good_rule t S m V levels r q A a k.1.0 in
        let gr' = good_rule u S m' V' levels' r q A' a' k.1.0 in
        let lr : Longest t u F (Spelled t S m V A q r) (Spelled u S m' V' A' q r) = longest_rule r st q F c A A' a a' ad ad' fl b (fair_opt S T C st q F r k) in
        record {
          forth = ends_opt t u F (first S q r) (more S q r) (nul S q r) _ _ gr gr' k.1.1 lr;
          back = ends_opt u t F (first S q r) (more S q r) (nul S q r) _ _ gr' gr k.1.1 (swap t u F _ _ lr);
        }
    longest_rule (rep l r) st q F c A A' a a' ad ad' fl b k =
        let p : _ = fair_rep S T C st q F l r k in
        wider t u F (T.follow l) _ _ p.1 (longest_rounds t u (T.follow l) (λ X. Good t (S.first l) (S.empty l) (S.more l) X × Derived t (within l r) again X) (λ X. Good u (S.first l) (S.empty l) (S.more l) X × Derived u (within l r) again X)
        (λ X. Spelled t S m V X (Some l) r) (λ X. Spelled u S m' V' X (Some l) r)
        (good_never t (S.first l) (S.empty l) (S.more l), λ o xs i j d. absurd (omega (arith, d.no)))
        (good_never u (S.first l) (S.empty l) (S.more l), λ o xs i j d. absurd (omega (arith, d.no)))
        (λ X x. (good_within t (first S (Some l) r) (S.first l) (more S (Some l) r) (S.more l) (nul S (Some l) r) (S.empty l) _ (good_rule t S m V levels r (Some l) X x.0 k.1.0) k.1.1.first k.1.1.more k.1.1.empty, λ o xs i j d. d_again (derived t table S m V ld r (Some l) (within l r) X x.1 o xs i j d)))
        (λ X x. (good_within u (first S (Some l) r) (S.first l) (more S (Some l) r) (S.more l) (nul S (Some l) r) (S.empty l) _ (good_rule u S m' V' levels' r (Some l) X x.0 k.1.0) k.1.1.first k.1.1.more k.1.1.empty, λ o xs i j d. d_again (derived u table S m' V' ld' r (Some l) (within l r) X x.1 o xs i j d)))
        (λ X X' x x' d. longest_rule r st (Some l) (T.follow l) (within l r) X X' x.0 x'.0 x.1 x'.1 (p.0, p.2, p.3, refl) d p.0) m m')
    longest_rule (make w r) st q F c A A' a a' ad ad' fl b k =
        let lr : Longest t u F (Spelled t S m V A q r) (Spelled u S m' V' A' q r) = longest_rule r st q F c A A' a a' ad ad' fl b k in
        record {
          forth = ends_make t u F (t.build w) (u.build w) _ _ lr;
          back = ends_make u t F (u.build w) (t.build w) _ _ (swap t u F _ _ lr);
        }

  longest_pick : (X Y X' Y' : L → Rel N) → ((l : L) → C l ≡ true → Longest t u (T.follow l) (X l) (X' l)) → ((l : L) → C l ≡ true → Longest t u (T.follow l) (Y l) (Y' l)) → (v : Bool) (l : L) → C l ≡ true → Longest t u (T.follow l) (pick X Y v l) (pick X' Y' v l)
  longest_pick X Y X' Y' a b false l = a l
  longest_pick X Y X' Y' a b true l = b l

  longest_ladder : (X X' : L → Rel N) → ((l : L) → Good t (S.first l) (S.empty l) (S.more l) (X l)) → ((l : L) → Good u (S.first l) (S.empty l) (S.more l) (X' l)) → ((l : L) → Derived t outside (table l) (X l)) → ((l : L) → Derived u outside (table l) (X' l)) → ((l : L) → C l ≡ true → Longest t u (T.follow l) (X l) (X' l)) → (k k' : ℕ) (l : L) → C l ≡ true → Longest t u (T.follow l) (Ladder t S m table X k l) (Ladder u S m' table X' k' l)
  longest_ladder X X' g g' e e' b zero k' l c = longest_never t u (T.follow l) (Ladder u S m' table X' k' l)
  longest_ladder X X' g g' e e' b (suc k) zero l c = swap u t (T.follow l) (Never _) (Ladder t S m table X (suc k) l) (longest_never u t (T.follow l) (Ladder t S m table X (suc k) l))
  longest_ladder X X' g g' e e' b (suc k) (suc k') l c = longest_rule (pick (Ladder t S m table X k) X) (pick (Ladder u S m' table X' k') X') (good_pick t S (Ladder t S m table X k) X (good_ladder t S m table G X g k) g) (good_pick u S (Ladder u S m' table X' k') X' (good_ladder u S m' table G X' g' k') g')
      (pick_derived t table (Ladder t S m table X k) X (ladder_derived t S m table X e k) e) (pick_derived u table (Ladder u S m' table X' k') X' (ladder_derived u S m' table X' e' k') e') (longest_pick (Ladder t S m table X k) X (Ladder u S m' table X' k') X' (longest_ladder X X' g g' e e' b k k') b)
      (table l) (T.start l) None (T.follow l) outside (Never _) (Never _) (good_never t [] false []) (good_never u [] false []) (λ o xs i j d. absurd (omega (arith, d.no))) (λ o xs i j d. absurd (omega (arith, d.no))) (record {}) (longest_never t u None (Never _)) (all_fair l c)

  pub longest_level : (top h h' : ℕ) (l : L) → C l ≡ true → Longest t u (T.follow l) (Level t S m table top h l) (Level u S m' table top h' l)
  longest_level top zero h' l c = longest_never t u (T.follow l) (Level u S m' table top h' l)
  longest_level top (suc h) zero l c = swap u t (T.follow l) (Never _) (Level t S m table top (suc h) l) (longest_never u t (T.follow l) (Level t S m table top (suc h) l))
  longest_level top (suc h) (suc h') l c = longest_ladder (Level t S m table top h) (Level u S m' table top h') (good_level t S m table G top h) (good_level u S m' table G top h') (level_derived t S m table top h) (level_derived u S m' table top h') (longest_level top h h') top top l c
