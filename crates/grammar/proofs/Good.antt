-- What holds of each relation that a rule gives, beside the sets of the rule.
use Rattle.std.proofs.Common.{◌≡◌, ℕ, zero, suc, ◌<◌, ◌≤◌, List, [], ◌∷◌, ◌++◌, refl, arith, sym, ◌∙◌, inl, inr}
use Rattle.std.specs.Prelude.{Bool, true, false, cond, ◌||◌, ◌&&◌, Option, Some, None, ◌⊎◌, ltb}
use Rattle.grammar.specs.Rule.{Rule, done, mark, word, ref, deep, again, seq, around, alt, look, choose, opt, must, rep, make, has, Source, Table}
use Rattle.grammar.specs.Sets.{Sets, nul, first, more, first_of, more_of, empty_of}
use Rattle.grammar.proofs.Facts.{and_true, or_left, or_right, less_or_same, has_left, has_right, lacks_left, lacks_right, skip, lacks_skip, Within}
use Rattle.grammar.proofs.Spelled.{Rel, Blocked, part, Other, rounds, Never, Spelled, Ladder, pick, Level, IsClear, IsGrammar}

pub record Good {K B N : Type 0} (t : Source K B N) (f : List ℕ) (e : Bool) (g : List ℕ) (X : Rel N) : Type 0 where
  pub order : (o : Option ℕ) (xs : List N) (i j : ℕ) → X o xs i j → i ≤ j
  pub head : (o : Option ℕ) (xs : List N) (i j : ℕ) → X o xs i j → i < j → has f (t.cls i) ≡ true
  pub empty : (o : Option ℕ) (xs : List N) (i j : ℕ) → X o xs i j → i ≡ j → e ≡ true
  pub forget : (o : Option ℕ) (xs : List N) (i j : ℕ) → X o xs i j → X None xs i j
  pub closed : (xs : List N) (i j c : ℕ) → X None xs i j → has g c ≡ false → X (Some c) xs i j

pub good_never : {K B N : Type 0} (t : Source K B N) (f : List ℕ) (e : Bool) (g : List ℕ) → Good t f e g (Never N)
good_never t f e g = record {
  order = λ o xs i j d. absurd (omega (arith, d.no));
  head = λ o xs i j d. absurd (omega (arith, d.no));
  empty = λ o xs i j d. absurd (omega (arith, d.no));
  forget = λ o xs i j d. d;
  closed = λ xs i j c d. absurd (omega (arith, d.no));
}

-- the first part of a sequence
abbrev pub Seq : {N : Type 0} → Rel N → Rel N → Rel N
Seq {N} X Y o xs i j = (k : ℕ) × (ys : List N) × (zs : List N) × X (part k j o) ys i k × Y o zs k j × (xs ≡ ys ++ zs)

-- a piece in brackets
abbrev pub Around : {K B N : Type 0} → Source K B N → List ℕ → List ℕ → Rel N → Rel N
Around t cs ds X o xs i j = (k : ℕ) × (has cs (t.cls i) ≡ true) × X None xs (suc i) k × (has ds (t.cls k) ≡ true) × (j ≡ suc k)

abbrev pub Alt : {N : Type 0} → Rel N → Rel N → Rel N
Alt X Y o xs i j = X o xs i j ⊎ Y o xs i j

abbrev pub Look : {K B N : Type 0} → Source K B N → K → List ℕ → List ℕ → B → Rel N → Rel N → Rel N
Look {N = N} t w cs ds b X Y o xs i j = ((ys : List N) × (has cs (t.cls i) ≡ true) × (has ds (t.cls (suc i)) ≡ true) × X o ys (suc (suc i)) j × (xs ≡ t.build b i j (t.leaf w i ∷ ys))) ⊎ (Other t cs ds o i j × Y o xs i j)

abbrev pub Choose : {K B N : Type 0} → Source K B N → ((ℕ → ℕ) → ℕ → Bool) → Rel N → Rel N → Rel N
Choose t p X Y o xs i j = ((p t.cls i ≡ true) × X o xs i j) ⊎ ((p t.cls i ≡ false) × Y o xs i j)

abbrev pub Must : {K B N : Type 0} → Source K B N → List ℕ → Rel N → Rel N
Must t cs X o xs i j = ((has cs (t.cls i) ≡ false) × (xs ≡ []) × (i ≡ j)) ⊎ X o xs i j

abbrev pub Opt : {N : Type 0} → List ℕ → Rel N → Rel N
Opt f X o xs i j = ((xs ≡ []) × (i ≡ j) × Blocked o f) ⊎ X o xs i j

abbrev pub Make : {N : Type 0} → (ℕ → ℕ → List N → List N) → Rel N → Rel N
Make {N} b X o xs i j = (ys : List N) × X o ys i j × (xs ≡ b i j ys)

pub part_none : (k j : ℕ) → part k j None ≡ None
part_none k j = grind arith

pub part_before : (k j : ℕ) (o : Option ℕ) → k < j → part k j o ≡ None
part_before k j o h = grind arith

pub part_end : (k j : ℕ) (o : Option ℕ) → k ≡ j → part k j o ≡ o
part_end k j o h = grind arith

module _ {K B N : Type 0} (t : Source K B N) where
  pub good_seq : (f f' g g' : List ℕ) (e e' : Bool) (X Y : Rel N) → Good t f e g X → Good t f' e' g' Y → Good t (f ++ cond e f' []) (e && e') (g' ++ cond e' g []) (Seq X Y)
  good_seq f f' g g' e e' X Y x y = record {
    order = λ o xs i j d. omega (arith, low o xs i j d, high o xs i j d);
    head = λ o xs i j d h. elim (less_or_same i d.0 (low o xs i j d)) [
      | inl p ↦ has_left f (cond e f' []) (t.cls i) (x.head (part d.0 j o) d.1 i d.0 d.3 p)
      | inr p ↦ skip e f f' (t.cls i) (x.empty (part d.0 j o) d.1 i d.0 d.3 p) (rw p (y.head o d.2 d.0 j d.4 (rw p at h)))
    ];
    empty = λ o xs i j d h. and_true e e' (x.empty (part d.0 j o) d.1 i d.0 d.3 (omega (arith, low o xs i j d, high o xs i j d))) (y.empty o d.2 d.0 j d.4 (omega (arith, low o xs i j d, high o xs i j d)));
    forget = λ o xs i j d. (d.0, d.1, d.2, rw part_none (x.forget (part d.0 j o) d.1 i d.0 d.3), y.forget o d.2 d.0 j d.4, d.5);
    closed = λ xs i j c d h. (
      d.0,
      d.1,
      d.2,
      elim (less_or_same d.0 j (high None xs i j d)) [
        | inl p ↦ rw (part_before d.0 j (Some c) p) (rw part_none at d.3)
        | inr p ↦ rw (part_end d.0 j (Some c) p) (x.closed d.1 i d.0 c (rw part_none at d.3) (lacks_skip e' g' g c (y.empty None d.2 d.0 j d.4 p) h))
      ],
      y.closed d.2 d.0 j c d.4 (lacks_left g' (cond e' g []) c h),
      d.5,
    );
  }
    where
      low : (o : Option ℕ) (xs : List N) (i j : ℕ) → (d : Seq X Y o xs i j) → i ≤ d.0
      low o xs i j d = x.order (part d.0 j o) d.1 i d.0 d.3

      high : (o : Option ℕ) (xs : List N) (i j : ℕ) → (d : Seq X Y o xs i j) → d.0 ≤ j
      high o xs i j d = y.order o d.2 d.0 j d.4

  pub good_around : (cs ds f g : List ℕ) (e : Bool) (X : Rel N) → Good t f e g X → Good t cs false [] (Around t cs ds X)
  good_around cs ds f g e X x = record {
    order = λ o xs i j d. omega (arith, x.order None xs (suc i) d.0 d.2, d.4);
    head = λ o xs i j d h. d.1;
    empty = λ o xs i j d h. absurd (omega (arith, x.order None xs (suc i) d.0 d.2, d.4, h));
    forget = λ o xs i j d. d;
    closed = λ xs i j c d h. d;
  }

  pub good_alt : (f f' g g' : List ℕ) (e e' : Bool) (X Y : Rel N) → Good t f e g X → Good t f' e' g' Y → Good t (f ++ f') (e || e') (g ++ g') (Alt X Y)
  good_alt f f' g g' e e' X Y x y = record {
    order = λ o xs i j d. elim d [ inl p ↦ x.order o xs i j p | inr p ↦ y.order o xs i j p ];
    head = λ o xs i j d h. elim d [ inl p ↦ has_left f f' (t.cls i) (x.head o xs i j p h) | inr p ↦ has_right f f' (t.cls i) (y.head o xs i j p h) ];
    empty = λ o xs i j d h. elim d [ inl p ↦ or_left e e' (x.empty o xs i j p h) | inr p ↦ or_right e e' (y.empty o xs i j p h) ];
    forget = λ o xs i j d. elim d [ inl p ↦ inl (x.forget o xs i j p) | inr p ↦ inr (y.forget o xs i j p) ];
    closed = λ xs i j c d h. elim d [ inl p ↦ inl (x.closed xs i j c p (lacks_left g g' c h)) | inr p ↦ inr (y.closed xs i j c p (lacks_right g g' c h)) ];
  }

  pub good_look : (w : K) (cs ds : List ℕ) (b : B) (f f' g g' : List ℕ) (e e' : Bool) (X Y : Rel N) → Good t f e g X → Good t f' e' g' Y → Good t (cs ++ f') e' (g ++ (ds ++ g')) (Look t w cs ds b X Y)
  good_look w cs ds b f f' g g' e e' X Y x y = record {
    order = λ o xs i j d. elim d [ inl p ↦ omega (arith, x.order o p.0 (suc (suc i)) j p.3) | inr p ↦ y.order o xs i j p.1 ];
    head = λ o xs i j d h. elim d [ inl p ↦ has_left cs f' (t.cls i) p.1 | inr p ↦ has_right cs f' (t.cls i) (y.head o xs i j p.1 h) ];
    empty = λ o xs i j d h. elim d [ inl p ↦ absurd (omega (arith, x.order o p.0 (suc (suc i)) j p.3, h)) | inr p ↦ y.empty o xs i j p.1 h ];
    forget = λ o xs i j d. elim d [ inl p ↦ inl (p.0, p.1, p.2, x.forget o p.0 (suc (suc i)) j p.3, p.4) | inr p ↦ inr (λ h. weaker (ltb (suc i) j) o _ (p.0 h), y.forget o xs i j p.1) ];
    closed = λ xs i j c d h. elim d [
      | inl p ↦ inl (p.0, p.1, p.2, x.closed p.0 (suc (suc i)) j c p.3 (lacks_left g (ds ++ g') c h), p.4)
      | inr p ↦ inr (λ k. stronger (ltb (suc i) j) _ _ (lacks_left ds g' c (lacks_right g (ds ++ g') c h)) (p.0 k), y.closed xs i j c p.1 (lacks_right ds g' c (lacks_right g (ds ++ g') c h)))
    ];
  }
    where
      weaker : (b : Bool) (o : Option ℕ) (P : Type 0) → cond b P (Blocked o ds) → cond b P (Blocked None ds)
      weaker true o P h = h
      weaker false o P h = record {}

      stronger : (b : Bool) (P Q : Type 0) → Q → cond b P (record {}) → cond b P Q
      stronger true P Q q h = h
      stronger false P Q q h = q

  pub good_choose : (p : (ℕ → ℕ) → ℕ → Bool) (f f' g g' : List ℕ) (e e' : Bool) (X Y : Rel N) → Good t f e g X → Good t f' e' g' Y → Good t (f ++ f') (e || e') (g ++ g') (Choose t p X Y)
  good_choose p f f' g g' e e' X Y x y = record {
    order = λ o xs i j d. elim d [ inl p ↦ x.order o xs i j p.1 | inr p ↦ y.order o xs i j p.1 ];
    head = λ o xs i j d h. elim d [ inl p ↦ has_left f f' (t.cls i) (x.head o xs i j p.1 h) | inr p ↦ has_right f f' (t.cls i) (y.head o xs i j p.1 h) ];
    empty = λ o xs i j d h. elim d [ inl p ↦ or_left e e' (x.empty o xs i j p.1 h) | inr p ↦ or_right e e' (y.empty o xs i j p.1 h) ];
    forget = λ o xs i j d. elim d [ inl p ↦ inl (p.0, x.forget o xs i j p.1) | inr p ↦ inr (p.0, y.forget o xs i j p.1) ];
    closed = λ xs i j c d h. elim d [ inl p ↦ inl (p.0, x.closed xs i j c p.1 (lacks_left g g' c h)) | inr p ↦ inr (p.0, y.closed xs i j c p.1 (lacks_right g g' c h)) ];
  }

  pub good_must : (cs f g : List ℕ) (e : Bool) (X : Rel N) → Good t f e g X → Good t f true g (Must t cs X)
  good_must cs f g e X x = record {
    order = λ o xs i j d. elim d [ inl p ↦ omega (arith, p.2) | inr p ↦ x.order o xs i j p ];
    head = λ o xs i j d h. elim d [ inl p ↦ absurd (omega (arith, p.2, h)) | inr p ↦ x.head o xs i j p h ];
    empty = λ o xs i j d h. refl;
    forget = λ o xs i j d. elim d [ inl p ↦ inl p | inr p ↦ inr (x.forget o xs i j p) ];
    closed = λ xs i j c d h. elim d [ inl p ↦ inl p | inr p ↦ inr (x.closed xs i j c p h) ];
  }

  pub good_opt : (f g : List ℕ) (e : Bool) (X : Rel N) → Good t f e g X → Good t f true (f ++ g) (Opt f X)
  good_opt f g e X x = record {
    order = λ o xs i j d. elim d [ inl p ↦ omega (arith, p.1) | inr p ↦ x.order o xs i j p ];
    head = λ o xs i j d h. elim d [ inl p ↦ absurd (omega (arith, p.1, h)) | inr p ↦ x.head o xs i j p h ];
    empty = λ o xs i j d h. refl;
    forget = λ o xs i j d. elim d [ inl p ↦ inl (p.0, p.1, record {}) | inr p ↦ inr (x.forget o xs i j p) ];
    closed = λ xs i j c d h. elim d [ inl p ↦ inl (p.0, p.1, lacks_left f g c h) | inr p ↦ inr (x.closed xs i j c p (lacks_right f g c h)) ];
  }

  pub good_make : (b : ℕ → ℕ → List N → List N) (f g : List ℕ) (e : Bool) (X : Rel N) → Good t f e g X → Good t f e g (Make b X)
  good_make b f g e X x = record {
    order = λ o xs i j d. x.order o d.0 i j d.1;
    head = λ o xs i j d h. x.head o d.0 i j d.1 h;
    empty = λ o xs i j d h. x.empty o d.0 i j d.1 h;
    forget = λ o xs i j d. (d.0, x.forget o d.0 i j d.1, d.2);
    closed = λ xs i j c d h. (d.0, x.closed d.0 i j c d.1 h, d.2);
  }

  -- sets may be declared larger than they are
  pub good_within : (f f' g g' : List ℕ) (e e' : Bool) (X : Rel N) → Good t f e g X → Within f f' → Within g g' → (e ≡ true → e' ≡ true) → Good t f' e' g' X
  good_within f f' g g' e e' X x wf wg we = record {
    order = x.order;
    head = λ o xs i j d h. wf (t.cls i) (x.head o xs i j d h);
    empty = λ o xs i j d h. we (x.empty o xs i j d h);
    forget = x.forget;
    closed = λ xs i j c d h. x.closed xs i j c d (outside (has g c) (wg c) h);
  }
    where
      outside : (b : Bool) {b' : Bool} → (b ≡ true → b' ≡ true) → b' ≡ false → b ≡ false
      outside true w h = sym (w refl) ∙ h
      outside false w h = refl

  pub good_rounds : (f g : List ℕ) (e : Bool) (F : Rel N → Rel N) → ((X : Rel N) → Good t f e g X → Good t f e g (F X)) → (n : ℕ) → Good t f e g (rounds (Never N) F n)
  good_rounds f g e F step zero = good_never t f e g
  good_rounds f g e F step (suc n) = step (rounds (Never N) F n) (good_rounds f g e F step n)

  module _ {L : Type 0} (S : Sets L) (m : ℕ) (V : Bool → L → Rel N) (levels : (u : Bool) (l : L) → Good t (S.first l) (S.empty l) (S.more l) (V u l)) where
    pub good_rule : (r : Rule K B L) (q : Option L) (A : Rel N) → Good t (first_of S q) (empty_of S q) (more_of S q) A → IsClear S q r → Good t (first S q r) (nul S q r) (more S q r) (Spelled t S m V A q r)
    good_rule done q A a k = record {
      order = λ o xs i j d. omega (arith, d.1);
      head = λ o xs i j d h. absurd (omega (arith, d.1, h));
      empty = λ o xs i j d h. refl;
      forget = λ o xs i j d. d;
      closed = λ xs i j c d h. d;
    }
    good_rule (mark cs) q A a k = record {
      order = λ o xs i j d. omega (arith, d.2);
      head = λ o xs i j d h. d.0;
      empty = λ o xs i j d h. absurd (omega (arith, d.2, h));
      forget = λ o xs i j d. d;
      closed = λ xs i j c d h. d;
    }
    good_rule (word w cs) q A a k = record {
      order = λ o xs i j d. omega (arith, d.2);
      head = λ o xs i j d h. d.0;
      empty = λ o xs i j d h. absurd (omega (arith, d.2, h));
      forget = λ o xs i j d. d;
      closed = λ xs i j c d h. d;
    }
    good_rule (ref l) q A a k = levels false l
    good_rule (deep l) q A a k = levels true l
    good_rule again q A a k = a
    good_rule (seq r s) q A a k = good_seq (first S q r) (first S q s) (more S q r) (more S q s) (nul S q r) (nul S q s) _ _ (good_rule r q A a k.0) (good_rule s q A a k.1)
    good_rule (around cs ds r) q A a k = good_around cs ds (first S q r) (more S q r) (nul S q r) _ (good_rule r q A a k.0)
    good_rule (alt r s) q A a k = good_alt (first S q r) (first S q s) (more S q r) (more S q s) (nul S q r) (nul S q s) _ _ (good_rule r q A a k.0) (good_rule s q A a k.1)
    good_rule (look w cs ds b r s) q A a k = good_look w cs ds b (first S q r) (first S q s) (more S q r) (more S q s) (nul S q r) (nul S q s) _ _ (good_rule r q A a k.0) (good_rule s q A a k.1)
    good_rule (choose p r s) q A a k = good_choose p (first S q r) (first S q s) (more S q r) (more S q s) (nul S q r) (nul S q s) _ _ (good_rule r q A a k.0) (good_rule s q A a k.1)
    good_rule (opt r) q A a k = good_opt (first S q r) (more S q r) (nul S q r) _ (good_rule r q A a k.0)
    good_rule (must cs r) q A a k = good_must cs (first S q r) (more S q r) (nul S q r) _ (good_rule r q A a k.0)
    good_rule (rep l r) q A a k = good_rounds (S.first l) (S.more l) (S.empty l) (λ X. Spelled t S m V X (Some l) r) (λ X x. good_within (first S (Some l) r) (S.first l) (more S (Some l) r) (S.more l) (nul S (Some l) r) (S.empty l) _ (good_rule r (Some l) X x k.0) k.1.first k.1.more k.1.empty) m
    good_rule (make b r) q A a k = good_make (t.build b) (first S q r) (more S q r) (nul S q r) _ (good_rule r q A a k)

pub good_pick : {K B L N : Type 0} (t : Source K B N) (S : Sets L) (X Y : L → Rel N) → ((l : L) → Good t (S.first l) (S.empty l) (S.more l) (X l)) → ((l : L) → Good t (S.first l) (S.empty l) (S.more l) (Y l)) → (u : Bool) (l : L) → Good t (S.first l) (S.empty l) (S.more l) (pick X Y u l)
good_pick t S X Y a b false l = a l
good_pick t S X Y a b true l = b l

pub good_ladder : {K B L N : Type 0} (t : Source K B N) (S : Sets L) (m : ℕ) (table : Table K B L) → IsGrammar S table → (D : L → Rel N) → ((l : L) → Good t (S.first l) (S.empty l) (S.more l) (D l)) → (k : ℕ) (l : L) → Good t (S.first l) (S.empty l) (S.more l) (Ladder t S m table D k l)
good_ladder t S m table G D b zero l = good_never t (S.first l) (S.empty l) (S.more l)
good_ladder t S m table G D b (suc k) l = good_within t (first S None (table l)) (S.first l) (more S None (table l)) (S.more l) (nul S None (table l)) (S.empty l) _ (good_rule t S m (pick (Ladder t S m table D k) D) (good_pick t S (Ladder t S m table D k) D (good_ladder t S m table G D b k) b) (table l) None (Never _) (good_never t [] false []) (G.clear l)) (G.covers l).first (G.covers l).more (G.covers l).empty

pub good_level : {K B L N : Type 0} (t : Source K B N) (S : Sets L) (m : ℕ) (table : Table K B L) → IsGrammar S table → (top h : ℕ) (l : L) → Good t (S.first l) (S.empty l) (S.more l) (Level t S m table top h l)
good_level t S m table G top zero l = good_never t (S.first l) (S.empty l) (S.more l)
good_level t S m table G top (suc h) l = good_ladder t S m table G (Level t S m table top h) (good_level t S m table G top h) top l
