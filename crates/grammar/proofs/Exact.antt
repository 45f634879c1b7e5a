-- The reader gives what is spelled, and nothing else.
use Rattle.std.proofs.Common.{◌≡◌, ℕ, zero, suc, ◌<◌, List, [], ◌∷◌, ◌++◌, refl, ap, arith, sym, ◌∙◌, inl, inr}
use Rattle.std.specs.Prelude.{Bool, true, false, cond, ◌&&◌, Option, Some, None, ltb}
use Rattle.grammar.specs.Rule.{Rule, done, mark, word, ref, deep, again, seq, around, alt, look, choose, opt, must, rep, make, has, Source, Table}
use Rattle.grammar.specs.Sets.{Sets, nul, first, more, first_of, more_of, empty_of}
use Rattle.grammar.specs.Reader.{Read, ◌>>=◌, turns, read, choice, climb, read_level}
use Rattle.grammar.proofs.Facts.{true_false, and_both, not_both, and_second, ltb_less, ltb_same, less_or_same, bind_some, chosen, none_some, some_pair, Apart, Within}
use Rattle.grammar.proofs.Spelled.{Rel, rounds, Never, Spelled, Ladder, pick, Level, IsClear, IsGrammar}
use Rattle.grammar.proofs.Good.{Good, Seq, Around, Alt, Look, Choose, Opt, Must, Make, part_before, part_end, good_rule, good_never, good_within, good_rounds, good_pick, good_ladder, good_level}

pub record Exact {K B N : Type 0} (t : Source K B N) (X : Rel N) (R : Read N) : Type 0 where
  pub complete : (xs : List N) (i j : ℕ) → X (Some (t.cls j)) xs i j → R i ≡ Some (xs, j)
  pub sound : (xs : List N) (i j : ℕ) → R i ≡ Some (xs, j) → X (Some (t.cls j)) xs i j

module _ {K B N : Type 0} (t : Source K B N) where
  exact_never : Exact t (Never N) (λ i. None)
  exact_never = record { complete = λ xs i j d. absurd (omega (arith, d.no)); sound = λ xs i j h. absurd (none_some _ h) }

  -- what cannot be empty goes on
  nonempty : {f g : List ℕ} {X : Rel N} (e : Bool) → e ≡ false → Good t f e g X → (o : Option ℕ) (xs : List N) (i j : ℕ) → X o xs i j → i < j
  nonempty e ne x o xs i j d = elim (less_or_same i j (x.order o xs i j d)) [ inl p ↦ p | inr p ↦ true_false e (x.empty o xs i j d p) ne ]

  exact_seq : (f f' g g' : List ℕ) (e e' : Bool) (X Y : Rel N) (R Q : Read N) → Good t f e g X → Good t f' e' g' Y → Apart g f' → Exact t X R → Exact t Y Q → Exact t (Seq X Y) (λ i. R i >>= λ x. Q x.1 >>= λ y. Some (x.0 ++ y.0, y.1))
  exact_seq f f' g g' e e' X Y R Q x y apart a b = record {
    complete = λ xs i j d. rw (a.complete d.1 i d.0 (joined xs i j d), b.complete d.2 d.0 j d.4) (rw d.5 refl);
    sound = λ xs i j h.
        let p : _ = bind_some (R i) (λ x. Q x.1 >>= λ y. Some (x.0 ++ y.0, y.1)) (xs, j) h in
        let p' : _ = bind_some (Q p.0.1) (λ y. Some (p.0.0 ++ y.0, y.1)) (xs, j) p.2 in
        found xs i j p.0.1 p'.0.1 p.0.0 p'.0.0 p.1 p'.1 p'.2;
  }
    where
      -- what the first part is asked in a sequence is that the token in hand can't go on with it
      joined : (xs : List N) (i j : ℕ) → (d : Seq X Y (Some (t.cls j)) xs i j) → X (Some (t.cls d.0)) d.1 i d.0
      joined xs i j d = elim (less_or_same d.0 j (y.order (Some (t.cls j)) d.2 d.0 j d.4)) [
        | inl p ↦ x.closed d.1 i d.0 (t.cls d.0) (rw (part_before d.0 j (Some (t.cls j)) p) at d.3) (apart (t.cls d.0) (y.head (Some (t.cls j)) d.2 d.0 j d.4 p))
        | inr p ↦ rw p (rw p at (rw (part_end d.0 j (Some (t.cls j)) p) at d.3))
      ]

      -- what the reader found in two steps
      found : (xs : List N) (i j k j' : ℕ) (ys zs : List N) → R i ≡ Some (ys, k) → Q k ≡ Some (zs, j') → ◌≡◌ {A = Option (List N × ℕ)} (Some (ys ++ zs, j')) (Some (xs, j)) → Seq X Y (Some (t.cls j)) xs i j
      found xs i j k j' ys zs p q same =
          let e : (ys ++ zs ≡ xs) × (j' ≡ j) = some_pair (ys ++ zs) xs j' j same in
          let dx : X (Some (t.cls k)) ys i k = a.sound ys i k p in
          let dy : Y (Some (t.cls j)) zs k j = b.sound zs k j (rw e.1 at q) in (
            k,
            ys,
            zs,
            elim (less_or_same k j (y.order (Some (t.cls j)) zs k j dy)) [
              | inl lt ↦ rw (part_before k j (Some (t.cls j)) lt) (x.forget (Some (t.cls k)) ys i k dx)
              | inr eq ↦ rw (part_end k j (Some (t.cls j)) eq) (rw (← ap t.cls eq) dx)
            ],
            dy,
            sym e.0,
          )

  exact_around : (cs ds f g : List ℕ) (e : Bool) (X : Rel N) (R : Read N) → Good t f e g X → Apart g ds → Exact t X R → Exact t (Around t cs ds X) (λ i. cond (has cs (t.cls i)) (R (suc i) >>= λ x. cond (has ds (t.cls x.1)) (Some (x.0, suc x.1)) None) None)
  exact_around cs ds f g e X R x apart a = record {
    complete = λ xs i j d. rw d.1 (rw (a.complete xs (suc i) d.0 (x.closed xs (suc i) d.0 (t.cls d.0) d.2 (apart (t.cls d.0) d.3))) (rw (d.3, d.4) refl));
    sound = λ xs i j h. elim (chosen (has cs (t.cls i)) (R (suc i) >>= λ x. cond (has ds (t.cls x.1)) (Some (x.0, suc x.1)) None) None (Some (xs, j)) h) [
      | inl p ↦ let q : _ = bind_some (R (suc i)) (λ x. cond (has ds (t.cls x.1)) (Some (x.0, suc x.1)) None) (xs, j) p.1 in found xs i j q.0.1 q.0.0 p.0 q.1 q.2
      | inr p ↦ absurd (none_some (xs, j) p.1)
    ];
  }
    where
      found : (xs : List N) (i j k : ℕ) (ys : List N) → has cs (t.cls i) ≡ true → R (suc i) ≡ Some (ys, k) → cond {A = Option (List N × ℕ)} (has ds (t.cls k)) (Some (ys, suc k)) None ≡ Some (xs, j) → Around t cs ds X (Some (t.cls j)) xs i j
      found xs i j k ys hc r h = elim (chosen (has ds (t.cls k)) (Some (ys, suc k)) None (Some (xs, j)) h) [
        | inl p ↦ let e : (ys ≡ xs) × (suc k ≡ j) = some_pair ys xs (suc k) j p.1 in (k, hc, rw e.0 at (x.forget (Some (t.cls k)) ys (suc i) k (a.sound ys (suc i) k r)), p.0, sym e.1)
        | inr p ↦ absurd (none_some (xs, j) p.1)
      ]

  exact_alt : (f f' g g' : List ℕ) (e e' : Bool) (X Y : Rel N) (R Q : Read N) → Good t f e g X → Good t f' e' g' Y → e ≡ false → e' ≡ false → Apart f f' → Exact t X R → Exact t Y Q → Exact t (Alt X Y) (λ i. cond (has f (t.cls i)) (R i) (Q i))
  exact_alt f f' g g' e e' X Y R Q x y ne ne' apart a b = record {
    complete = λ xs i j d. elim d [
      | inl p ↦ rw (x.head (Some (t.cls j)) xs i j p (nonempty e ne x (Some (t.cls j)) xs i j p)) (a.complete xs i j p)
      | inr p ↦ rw (apart (t.cls i) (y.head (Some (t.cls j)) xs i j p (nonempty e' ne' y (Some (t.cls j)) xs i j p))) (b.complete xs i j p)
    ];
    sound = λ xs i j h. elim (chosen (has f (t.cls i)) (R i) (Q i) (Some (xs, j)) h) [
      | inl p ↦ inl (a.sound xs i j p.1)
      | inr p ↦ inr (b.sound xs i j p.1)
    ];
  }

  exact_look : (w : K) (cs ds : List ℕ) (b : B) (f f' g g' : List ℕ) (e e' : Bool) (X Y : Rel N) (R Q : Read N) → Good t f e g X → Good t f' e' g' Y → e' ≡ false → Exact t X R → Exact t Y Q → Exact t (Look t w cs ds b X Y) (λ i. cond (has cs (t.cls i) && has ds (t.cls (suc i))) (R (suc (suc i)) >>= λ x. Some (t.build b i x.1 (t.leaf w i ∷ x.0), x.1)) (Q i))
  exact_look w cs ds b f f' g g' e e' X Y R Q x y ne a c = record {
    complete = λ xs i j d. elim d [
      | inl p ↦ rw (p.1, p.2) (rw (a.complete p.0 (suc (suc i)) j p.3) (rw p.4 refl))
      | inr p ↦ rw (not_both (has cs (t.cls i)) (has ds (t.cls (suc i))) (λ h. ahead i j (nonempty e' ne y (Some (t.cls j)) xs i j p.1) (p.0 h))) (c.complete xs i j p.1)
    ];
    sound = λ xs i j h. elim (chosen (has cs (t.cls i) && has ds (t.cls (suc i))) (R (suc (suc i)) >>= λ x. Some (t.build b i x.1 (t.leaf w i ∷ x.0), x.1)) (Q i) (Some (xs, j)) h) [
      | inl p ↦ let u : _ = and_both (has cs (t.cls i)) (has ds (t.cls (suc i))) p.0 in
          let q : _ = bind_some (R (suc (suc i))) (λ x. Some (t.build b i x.1 (t.leaf w i ∷ x.0), x.1)) (xs, j) p.1 in
          inl (found xs i j q.0.1 q.0.0 u.0 u.1 q.1 q.2)
      | inr p ↦ let d : Y (Some (t.cls j)) xs i j = c.sound xs i j p.1 in inr (λ h. behind i j (nonempty e' ne y (Some (t.cls j)) xs i j d) (and_second (has cs (t.cls i)) (has ds (t.cls (suc i))) p.0 h), d)
    ];
  }
    where
      found : (xs : List N) (i j k : ℕ) (ys : List N) → has cs (t.cls i) ≡ true → has ds (t.cls (suc i)) ≡ true → R (suc (suc i)) ≡ Some (ys, k) → ◌≡◌ {A = Option (List N × ℕ)} (Some (t.build b i k (t.leaf w i ∷ ys), k)) (Some (xs, j)) → (ys : List N) × (has cs (t.cls i) ≡ true) × (has ds (t.cls (suc i)) ≡ true) × X (Some (t.cls j)) ys (suc (suc i)) j × (xs ≡ t.build b i j (t.leaf w i ∷ ys))
      found xs i j k ys hc hd r same =
          let u : (t.build b i k (t.leaf w i ∷ ys) ≡ xs) × (k ≡ j) = some_pair (t.build b i k (t.leaf w i ∷ ys)) xs k j same in
          (ys, hc, hd, a.sound ys (suc (suc i)) j (rw u.1 at r), sym u.0 ∙ ap (λ n. t.build b i n (t.leaf w i ∷ ys)) u.1)

      ahead : (i j : ℕ) → i < j → cond (ltb (suc i) j) (has ds (t.cls (suc i)) ≡ false) (has ds (t.cls j) ≡ false) → has ds (t.cls (suc i)) ≡ false
      ahead i j lt h = elim (less_or_same (suc i) j lt) [ inl p ↦ rw (ltb_less (suc i) j p) at h | inr p ↦ rw (← ap t.cls p) at (rw (ltb_same (suc i) j p) at h) ]

      behind : (i j : ℕ) → i < j → has ds (t.cls (suc i)) ≡ false → cond (ltb (suc i) j) (has ds (t.cls (suc i)) ≡ false) (has ds (t.cls j) ≡ false)
      behind i j lt h = elim (less_or_same (suc i) j lt) [ inl p ↦ rw (ltb_less (suc i) j p) h | inr p ↦ rw (ltb_same (suc i) j p) (rw (← ap t.cls p) h) ]

  exact_choose : (p : (ℕ → ℕ) → ℕ → Bool) (X Y : Rel N) (R Q : Read N) → Exact t X R → Exact t Y Q → Exact t (Choose t p X Y) (λ i. cond (p t.cls i) (R i) (Q i))
  exact_choose p X Y R Q a b = record {
    complete = λ xs i j d. elim d [ inl u ↦ rw u.0 (a.complete xs i j u.1) | inr u ↦ rw u.0 (b.complete xs i j u.1) ];
    sound = λ xs i j h. elim (chosen (p t.cls i) (R i) (Q i) (Some (xs, j)) h) [ inl u ↦ inl (u.0, a.sound xs i j u.1) | inr u ↦ inr (u.0, b.sound xs i j u.1) ];
  }

  exact_must : (cs f g : List ℕ) (e : Bool) (X : Rel N) (R : Read N) → Good t f e g X → e ≡ false → Within f cs → Exact t X R → Exact t (Must t cs X) (λ i. cond (has cs (t.cls i)) (R i) (Some ([], i)))
  exact_must cs f g e X R x ne within a = record {
    complete = λ xs i j d. elim d [
      | inl p ↦ rw (p.1, p.2) (rw (rw p.2 at p.0) refl)
      | inr p ↦ rw (within (t.cls i) (x.head (Some (t.cls j)) xs i j p (nonempty e ne x (Some (t.cls j)) xs i j p))) (a.complete xs i j p)
    ];
    sound = λ xs i j h. elim (chosen (has cs (t.cls i)) (R i) (Some ([], i)) (Some (xs, j)) h) [
      | inl p ↦ inr (a.sound xs i j p.1)
      | inr p ↦ let e : ([] ≡ xs) × (i ≡ j) = some_pair [] xs i j p.1 in inl (p.0, sym e.0, e.1)
    ];
  }

  exact_opt : (f g : List ℕ) (e : Bool) (X : Rel N) (R : Read N) → Good t f e g X → e ≡ false → Exact t X R → Exact t (Opt f X) (λ i. cond (has f (t.cls i)) (R i) (Some ([], i)))
  exact_opt f g e X R x ne a = record {
    complete = λ xs i j d. elim d [
      | inl p ↦ rw (p.0, p.1) (rw p.2 refl)
      | inr p ↦ rw (x.head (Some (t.cls j)) xs i j p (nonempty e ne x (Some (t.cls j)) xs i j p)) (a.complete xs i j p)
    ];
    sound = λ xs i j h. elim (chosen (has f (t.cls i)) (R i) (Some ([], i)) (Some (xs, j)) h) [
      | inl p ↦ inr (a.sound xs i j p.1)
      | inr p ↦ let e : ([] ≡ xs) × (i ≡ j) = some_pair [] xs i j p.1 in inl (sym e.0, e.1, rw (← ap t.cls e.1) p.0)
    ];
  }

  exact_make : (b : ℕ → ℕ → List N → List N) (X : Rel N) (R : Read N) → Exact t X R → Exact t (Make b X) (λ i. R i >>= λ x. Some (b i x.1 x.0, x.1))
  exact_make b X R a = record {
    complete = λ xs i j d. rw (a.complete d.0 i j d.1) (rw d.2 refl);
    sound = λ xs i j h. let p : _ = bind_some (R i) (λ x. Some (b i x.1 x.0, x.1)) (xs, j) h in found xs i j p.0.1 p.0.0 p.1 p.2;
  }
    where
      found : (xs : List N) (i j k : ℕ) (ys : List N) → R i ≡ Some (ys, k) → ◌≡◌ {A = Option (List N × ℕ)} (Some (b i k ys, k)) (Some (xs, j)) → Make b X (Some (t.cls j)) xs i j
      found xs i j k ys p same =
          let e : (b i k ys ≡ xs) × (k ≡ j) = some_pair (b i k ys) xs k j same in
          (ys, a.sound ys i j (rw e.1 at p), sym e.0 ∙ ap (λ n. b i n ys) e.1)

  exact_rounds : (F : Rel N → Rel N) (H : Read N → Read N) (f g : List ℕ) (e : Bool) → ((X : Rel N) → Good t f e g X → Good t f e g (F X)) → ((X : Rel N) (R : Read N) → Good t f e g X → Exact t X R → Exact t (F X) (H R)) → (n : ℕ) → Exact t (rounds (Never N) F n) (turns (λ i. None) H n)
  exact_rounds F H f g e good step zero = exact_never
  exact_rounds F H f g e good step (suc n) = step (rounds (Never N) F n) (turns (λ i. None) H n) (good_rounds t f g e F good n) (exact_rounds F H f g e good step n)

  module _ {L : Type 0} (S : Sets L) (m : ℕ) (V : Bool → L → Rel N) (W : Bool → L → Read N) (levels : (u : Bool) (l : L) → Good t (S.first l) (S.empty l) (S.more l) (V u l)) (exact : (u : Bool) (l : L) → Exact t (V u l) (W u l)) where
    exact_rule : (r : Rule K B L) (q : Option L) (A : Rel N) (R : Read N) → Good t (first_of S q) (empty_of S q) (more_of S q) A → Exact t A R → IsClear S q r → Exact t (Spelled t S m V A q r) (read t S m W R q r)
    exact_rule done q A R a b k = record {
      complete = λ xs i j d. rw (d.0, d.1);
      sound = λ xs i j h. let e : ([] ≡ xs) × (i ≡ j) = some_pair [] xs i j h in (sym e.0, e.1);
    }
    exact_rule (mark cs) q A R a b k = record {
      complete = λ xs i j d. rw (d.0, d.1, d.2);
      sound = λ xs i j h. elim (chosen (has cs (t.cls i)) (Some ([], suc i)) None (Some (xs, j)) h) [
        | inl p ↦ let e : ([] ≡ xs) × (suc i ≡ j) = some_pair [] xs (suc i) j p.1 in (p.0, sym e.0, sym e.1)
        | inr p ↦ absurd (none_some (xs, j) p.1)
      ];
    }
    exact_rule (word w cs) q A R a b k = record {
      complete = λ xs i j d. rw (d.0, d.1, d.2);
      sound = λ xs i j h. elim (chosen (has cs (t.cls i)) (Some (t.leaf w i ∷ [], suc i)) None (Some (xs, j)) h) [
        | inl p ↦ let e : (t.leaf w i ∷ [] ≡ xs) × (suc i ≡ j) = some_pair (t.leaf w i ∷ []) xs (suc i) j p.1 in (p.0, sym e.0, sym e.1)
        | inr p ↦ absurd (none_some (xs, j) p.1)
      ];
    }
    exact_rule (ref l) q A R a b k = exact false l
    exact_rule (deep l) q A R a b k = exact true l
    exact_rule again q A R a b k = b
    exact_rule (seq r s) q A R a b k = exact_seq (first S q r) (first S q s) (more S q r) (more S q s) (nul S q r) (nul S q s) _ _ _ _ (good_rule t S m V levels r q A a k.0) (good_rule t S m V levels s q A a k.1) k.2 (exact_rule r q A R a b k.0) (exact_rule s q A R a b k.1)
    exact_rule (around cs ds r) q A R a b k = exact_around cs ds (first S q r) (more S q r) (nul S q r) _ _ (good_rule t S m V levels r q A a k.0) k.1 (exact_rule r q A R a b k.0)
    exact_rule (alt r s) q A R a b k = exact_alt (first S q r) (first S q s) (more S q r) (more S q s) (nul S q r) (nul S q s) _ _ _ _ (good_rule t S m V levels r q A a k.0) (good_rule t S m V levels s q A a k.1) k.2 k.3 k.4 (exact_rule r q A R a b k.0) (exact_rule s q A R a b k.1)
    exact_rule (look w cs ds v r s) q A R a b k = exact_look w cs ds v (first S q r) (first S q s) (more S q r) (more S q s) (nul S q r) (nul S q s) _ _ _ _ (good_rule t S m V levels r q A a k.0) (good_rule t S m V levels s q A a k.1) k.2 (exact_rule r q A R a b k.0) (exact_rule s q A R a b k.1)
    exact_rule (choose p r s) q A R a b k = exact_choose p _ _ _ _ (exact_rule r q A R a b k.0) (exact_rule s q A R a b k.1)
    exact_rule (must cs r) q A R a b k = exact_must cs (first S q r) (more S q r) (nul S q r) _ _ (good_rule t S m V levels r q A a k.0) k.1 k.2 (exact_rule r q A R a b k.0)
    exact_rule (opt r) q A R a b k = exact_opt (first S q r) (more S q r) (nul S q r) _ _ (good_rule t S m V levels r q A a k.0) k.1 (exact_rule r q A R a b k.0)
    exact_rule (rep l r) q A R a b k = exact_rounds (λ X. Spelled t S m V X (Some l) r) (λ Q. read t S m W Q (Some l) r) (S.first l) (S.more l) (S.empty l)
        (λ X c. good_within t (first S (Some l) r) (S.first l) (more S (Some l) r) (S.more l) (nul S (Some l) r) (S.empty l) _ (good_rule t S m V levels r (Some l) X c k.0) k.1.first k.1.more k.1.empty)
        (λ X Q c d. exact_rule r (Some l) X Q c d k.0) m
    exact_rule (make b r) q A R a c k = exact_make (t.build b) _ _ (exact_rule r q A R a c k)

exact_pick : {K B L N : Type 0} (t : Source K B N) (X Y : L → Rel N) (R Q : L → Read N) → ((l : L) → Exact t (X l) (R l)) → ((l : L) → Exact t (Y l) (Q l)) → (u : Bool) (l : L) → Exact t (pick X Y u l) (choice R Q u l)
exact_pick t X Y R Q a b false l = a l
exact_pick t X Y R Q a b true l = b l

pub exact_ladder : {K B L N : Type 0} (t : Source K B N) (S : Sets L) (m : ℕ) (table : Table K B L) → IsGrammar S table → (X : L → Rel N) (D : L → Read N) → ((l : L) → Good t (S.first l) (S.empty l) (S.more l) (X l)) → ((l : L) → Exact t (X l) (D l)) → (k : ℕ) (l : L) → Exact t (Ladder t S m table X k l) (climb t S m table D k l)
exact_ladder t S m table G X D g b zero l = exact_never t
exact_ladder t S m table G X D g b (suc k) l = exact_rule t S m (pick (Ladder t S m table X k) X) (choice (climb t S m table D k) D) (good_pick t S (Ladder t S m table X k) X (good_ladder t S m table G X g k) g) (exact_pick t (Ladder t S m table X k) X (climb t S m table D k) D (exact_ladder t S m table G X D g b k) b) (table l) None (Never _) (λ i. None) (good_never t [] false []) (exact_never t) (G.clear l)

-- The reader of each level gives exactly what the level spells and the token in hand can't go on with.
pub exact_level : {K B L N : Type 0} (t : Source K B N) (S : Sets L) (m : ℕ) (table : Table K B L) → IsGrammar S table → (top h : ℕ) (l : L) → Exact t (Level t S m table top h l) (read_level t S m table top h l)
exact_level t S m table G top zero l = exact_never t
exact_level t S m table G top (suc h) l = exact_ladder t S m table G (Level t S m table top h) (read_level t S m table top h) (good_level t S m table G top h) (exact_level t S m table G top h) top l
