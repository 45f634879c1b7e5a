-- What is known as values come.
use Rattle.std.proofs.Common.{◌≡◌, ◌≢◌, ℕ, zero, suc, ◌+◌, ◌*◌, ◌<◌, ◌≤◌, ◌⊎◌, ◌↔◌, inl, inr, List, [], ◌∷◌, ◌++◌, length, get_or, set, sym, ◌∙◌, ap, subst, refl, arith, length-set, length-append}
use Rattle.std.proofs.Common.{get_or-set_same, get_or-set_other}
use Rattle.std.proofs.lemmas.Bool.{cases_eq}
use Rattle.graph_form.specs.Sets.{Among}
use Rattle.graph_form.proofs.Amongs.{among_push}
use Rattle.held_values.specs.declared.slots.Slots.{Slots}
use Rattle.held_values.specs.declared.targets.Target.{Target}
use Rattle.held_values.specs.Slots.{unseen, slot, Covers, Clashes, Comes, rank, ranks, weight_of, Joins, Raised, ComesTo, ComesAt, Enters}

-- one value more

pub joined_first : (old value : ℕ) → value < unseen → old ≡ unseen → Joins old value value
joined_first old value small first = record {
  covers = inr refl;
  kept = inl first;
  comes = inr (inl refl);
  rank = λ ne. omega (arith, first, small);
  seen = small;
}

pub joined_same : (old value : ℕ) → value < unseen → old ≡ value → Joins old value value
joined_same old value small same = record {
  covers = inr refl;
  kept = inr (inr (sym same));
  comes = inl (sym same);
  rank = λ ne. absurd (ne (sym same));
  seen = small;
}

pub joined_other : (old value : ℕ) → old ≢ unseen → old ≢ value → Joins old value 0
joined_other old value seen other = record {
  covers = inl refl;
  kept = inr (inl refl);
  comes = inr (inr (refl, (value, refl, inl (seen, other))));
  rank = λ ne. let some : old ≢ 0 = λ z. ne (sym z) in omega (arith, some);
  seen = omega arith;
}

-- what is known allows for what was known

pub covers_on : (a b d : ℕ) → Covers a b → Covers b d → Covers a d
covers_on a b d (inl z) h = inl z
covers_on a b d (inr e) (inl z) = inl (e ∙ z)
covers_on a b d (inr e) (inr f) = inr (e ∙ f)

pub still_seen : (old new : ℕ) → ((old ≡ unseen) ⊎ Covers new old) → old ≢ unseen → new ≢ unseen
still_seen old new (inl u) seen = absurd (seen u)
still_seen old new (inr (inl z)) seen = λ u. absurd (omega (arith, z, u))
still_seen old new (inr (inr e)) seen = λ u. seen (sym e ∙ u)

kept_on : (a b d : ℕ) → ((a ≡ unseen) ⊎ Covers b a) → ((b ≡ unseen) ⊎ Covers d b) → ((a ≡ unseen) ⊎ Covers d a)
kept_on a b d (inl u) h = inl u
kept_on a b d (inr c) (inr g) = inr (covers_on d b a g c)
kept_on a b d (inr (inl z)) (inl u) = absurd (omega (arith, z, u))
kept_on a b d (inr (inr e)) (inl u) = inl (sym e ∙ u)

pub covers_still : (b d v : ℕ) → v < unseen → Covers b v → ((b ≡ unseen) ⊎ Covers d b) → Covers d v
covers_still b d v small (inl z) (inl u) = absurd (omega (arith, z, u))
covers_still b d v small (inr e) (inl u) = absurd (omega (arith, e, u, small))
covers_still b d v small c (inr g) = covers_on d b v g c

-- where what is known comes from

clashes_as : (P R : ℕ → Type 0) (a : ℕ) → ((v : ℕ) → P v → R v) → Clashes a P → Clashes a R
clashes_as P R a p (v, came, inl h) = (v, p v came, inl h)
clashes_as P R a p (v, came, inr (w, also, ne)) = (v, p v came, inr (w, p w also, ne))

pub comes_as : (P R : ℕ → Type 0) (a d : ℕ) → ((v : ℕ) → P v → R v) → Comes a P d → Comes a R d
comes_as P R a d p (inl e) = inl e
comes_as P R a d p (inr (inl came)) = inr (inl (p d came))
comes_as P R a d p (inr (inr (z, clash))) = inr (inr (z, clashes_as P R a p clash))

comes_clash : (P Q R : ℕ → Type 0) (a b d v : ℕ) → ((v : ℕ) → P v → R v) → ((v : ℕ) → Q v → R v) → d ≡ 0 → Q v → b ≢ unseen → b ≢ v → Comes a P b → Comes a R d
comes_clash P Q R a b d v p q z came seen ne (inl e) = inr (inr (z, (v, q v came, inl (λ u. seen (e ∙ u), λ u. ne (e ∙ u)))))
comes_clash P Q R a b d v p q z came seen ne (inr (inl pb)) = inr (inr (z, (v, q v came, inr (b, p b pb, ne))))
comes_clash P Q R a b d v p q z came seen ne (inr (inr (y, clash))) = inr (inr (z, clashes_as P R a p clash))

comes_on : (P Q R : ℕ → Type 0) (a b d : ℕ) → ((v : ℕ) → P v → R v) → ((v : ℕ) → Q v → R v) → Comes a P b → Comes b Q d → Comes a R d
comes_on P Q R a b d p q first (inl e) = let S : ℕ → Type 0 = λ x. Comes a R x in subst S (sym e) (comes_as P R a b p first)
comes_on P Q R a b d p q first (inr (inl came)) = inr (inl (q d came))
comes_on P Q R a b d p q first (inr (inr (z, (v, came, inl (seen, ne))))) = comes_clash P Q R a b d v p q z came seen ne first
comes_on P Q R a b d p q first (inr (inr (z, (v, came, inr (w, also, ne))))) = inr (inr (z, (v, q v came, inr (w, q w also, ne))))

-- values that come one after the other

pub raised_none : (Came : ℕ → ℕ → Type 0) (s : Slots) → ((k v : ℕ) → Came k v → ⊥) → Raised Came s s
raised_none Came s none = record {
  size = refl;
  covers = λ k v came. absurd (none k v came);
  kept = λ k. inr (inr refl);
  comes = λ k. inl refl;
  waits = λ k. inl refl;
  more = λ k h. h;
  inside = λ k h. inl h;
  weight = omega arith;
  small = λ k v came. absurd (none k v came);
}

pub raised_then : (P Q R : ℕ → ℕ → Type 0) (a b d : Slots) → Raised P a b → Raised Q b d → ((k v : ℕ) → R k v ↔ (P k v ⊎ Q k v)) → Raised R a d
raised_then P Q R a b d f g same = record {
  size = g.size ∙ f.size;
  covers = λ k v r. elim ((same k v).0 r) [
    | inl p ↦ covers_still (slot b k) (slot d k) v (f.small k v p) (f.covers k v p) (g.kept k)
    | inr q ↦ g.covers k v q
  ];
  kept = λ k. kept_on (slot a k) (slot b k) (slot d k) (f.kept k) (g.kept k);
  comes = λ k. comes_on (P k) (Q k) (R k) (slot a k) (slot b k) (slot d k) (λ v p. (same k v).1 (inl p)) (λ v q. (same k v).1 (inr q)) (f.comes k) (g.comes k);
  waits = λ k. elim (g.waits k) [
    | inl e ↦ elim (f.waits k) [ inl h ↦ inl (e ∙ h) | inr w ↦ inr (g.more k w) ]
    | inr w ↦ inr w
  ];
  more = λ k h. g.more k (f.more k h);
  inside = λ k h. elim (g.inside k h) [
    | inl o ↦ elim (f.inside k o) [ inl w ↦ inl w | inr (lt, ne) ↦ inr (omega (arith, lt, g.size), still_seen (slot b k) (slot d k) (g.kept k) ne) ]
    | inr x ↦ inr x
  ];
  weight = omega (arith, f.weight, g.weight);
  small = λ k v r. elim ((same k v).0 r) [ inl p ↦ f.small k v p | inr q ↦ g.small k v q ];
}

pub raised_as : (P Q : ℕ → ℕ → Type 0) (a b : Slots) → Raised P a b → ((k v : ℕ) → P k v ↔ Q k v) → Raised Q a b
raised_as P Q a b f same = record {
  size = f.size;
  covers = λ k v q. f.covers k v ((same k v).1 q);
  kept = f.kept;
  comes = λ k. comes_as (P k) (Q k) (slot a k) (slot b k) (λ v. (same k v).0) (f.comes k);
  waits = f.waits;
  more = f.more;
  inside = f.inside;
  weight = f.weight;
  small = λ k v q. f.small k v ((same k v).1 q);
}

-- one value comes to one pair

ranks_less : (xs : List ℕ) (i x : ℕ) → i < length xs → rank x < rank (get_or xs i 0) → ranks (set xs i x) < ranks xs
ranks_less [] i x lt less = absurd (omega arith)
ranks_less (y ∷ ys) zero x lt less = omega (arith, less)
ranks_less (y ∷ ys) (suc i) x lt less = omega (arith, ranks_less ys i x (omega arith) less)

weighs : (s new : Slots) (at now : ℕ) → at < length s.values.items → rank now < rank (slot s at) → new.values.items ≡ set s.values.items at now → new.waiting.items ≡ s.waiting.items ++ at ∷ [] → weight_of new ≤ weight_of s
unfolding weight_of
weighs s new at now lt less values waiting = omega (arith, ap ranks values, ranks_less s.values.items at now lt less, ap length waiting, length-append s.waiting.items (at ∷ []))

pub unchanged : (s : Slots) (at value now : ℕ) → value < unseen → Joins (slot s at) value now → now ≡ slot s at → Raised (λ k v. (k ≡ at) × (v ≡ value)) s s
unchanged s at value now small joins same = record {
  size = refl;
  covers = λ k v (e, f).
      let P : ℕ → Type 0 = λ x. Covers (slot s x) v in
      let Q : ℕ → Type 0 = λ x. Covers (slot s at) x in
      let R : ℕ → Type 0 = λ x. Covers x value in
      subst P (sym e) (subst Q (sym f) (subst R same joins.covers));
  kept = λ k. inr (inr refl);
  comes = λ k. inl refl;
  waits = λ k. inl refl;
  more = λ k h. h;
  inside = λ k h. inl h;
  weight = omega arith;
  small = λ k v (e, f). omega (arith, f, small);
}

pub changed : (s new : Slots) (at value now : ℕ) → at < length s.values.items → value < unseen → Joins (slot s at) value now → now ≢ slot s at → new.values.items ≡ set s.values.items at now → new.waiting.items ≡ s.waiting.items ++ at ∷ [] → Raised (λ k v. (k ≡ at) × (v ≡ value)) s new
changed s new at value now lt small joins other values waiting =
    let here : slot new at ≡ now = ap (λ xs. get_or xs at 0) values ∙ get_or-set_same s.values.items at now 0 lt in
    let there : (k : ℕ) → k ≢ at → slot new k ≡ slot s k = λ k ne. ap (λ xs. get_or xs k 0) values ∙ get_or-set_other s.values.items at k now 0 ne in
    let size : length new.values.items ≡ length s.values.items = ap length values ∙ length-set _ _ _ in
    record {
      size = size;
      covers = λ k v (e, f).
          let P : ℕ → Type 0 = λ x. Covers (slot new x) v in
          let Q : ℕ → Type 0 = λ x. Covers (slot new at) x in
          let R : ℕ → Type 0 = λ x. Covers x value in
          subst P (sym e) (subst Q (sym f) (subst R (sym here) joins.covers));
      kept = λ k. elim (cases_eq k at) [
        | inl e ↦
            let P : ℕ → Type 0 = λ x. (slot s x ≡ unseen) ⊎ Covers (slot new x) (slot s x) in
            let Q : ℕ → Type 0 = λ y. (slot s at ≡ unseen) ⊎ Covers y (slot s at) in
            subst P (sym e) (subst Q (sym here) joins.kept)
        | inr ne ↦ inr (inr (there k ne))
      ];
      comes = λ k. elim (cases_eq k at) [
        | inl e ↦
            let Came : ℕ → Type 0 = λ v. (k ≡ at) × (v ≡ value) in
            let P : ℕ → Type 0 = λ x. Comes (slot s x) Came (slot new x) in
            let Q : ℕ → Type 0 = λ y. Comes (slot s at) Came y in
            subst P (sym e) (subst Q (sym here) (comes_as (λ v. v ≡ value) Came (slot s at) now (λ v f. (e, f)) joins.comes))
        | inr ne ↦ inl (there k ne)
      ];
      waits = λ k. elim (cases_eq k at) [
        | inl e ↦ let P : List ℕ → Type 0 = λ xs. Among xs k in inr (subst P (sym waiting) ((among_push s.waiting.items at k).1 (inr (sym e))))
        | inr ne ↦ inl (there k ne)
      ];
      more = λ k h. let P : List ℕ → Type 0 = λ xs. Among xs k in subst P (sym waiting) ((among_push s.waiting.items at k).1 (inl h));
      inside = λ k h.
          let P : List ℕ → Type 0 = λ xs. Among xs k in
          elim ((among_push s.waiting.items at k).0 (subst P waiting h)) [
            | inl o ↦ inl o
            | inr e ↦
                let Q : ℕ → Type 0 = λ x. slot new x ≢ unseen in
                let seen : slot new at ≢ unseen = λ u. absurd (omega (arith, u, here, joins.seen)) in
                inr (omega (arith, e, lt, size), subst Q e seen)
          ];
      weight = weighs s new at now lt (joins.rank other) values waiting;
      small = λ k v (e, f). omega (arith, f, small);
    }

-- many values

pub to_more : (base : ℕ) (all some : List ℕ) (p value k v : ℕ) → ((x : ℕ) → Among all x ↔ (Among some x ⊎ (p ≡ x))) → ComesTo base all value k v ↔ (ComesTo base some value k v ⊎ ((k ≡ base + p) × (v ≡ value)))
to_more base all some p value k v split = (
  λ (x, among, e, f). elim ((split x).0 among) [
    | inl o ↦ inl (x, o, e, f)
    | inr s ↦ inr (e ∙ ap (λ y. base + y) (sym s), f)
  ],
  λ h. elim h [ inl (x, o, e, f) ↦ (x, (split x).1 (inl o), e, f) | inr (e, f) ↦ (p, (split p).1 (inr refl), e, f) ],
)

pub at_more : (points : List ℕ) (width : ℕ) (all some : List Target) (t : Target) (k v : ℕ) → ((x : Target) → Among all x ↔ (Among some x ⊎ (t ≡ x))) → ComesAt points width all k v ↔ (ComesAt points width some k v ⊎ ComesTo (t.name * width) points t.value k v)
at_more points width all some t k v split = (
  λ (x, among, to). elim ((split x).0 among) [
    | inl o ↦ inl (x, o, to)
    | inr s ↦ let P : Target → Type 0 = λ y. ComesTo (y.name * width) points y.value k v in inr (subst P (sym s) to)
  ],
  λ h. elim h [ inl (x, o, to) ↦ (x, (split x).1 (inl o), to) | inr to ↦ (t, (split t).1 (inr refl), to) ],
)

pub enters_more : (start : List ℕ) (width i k v : ℕ) → i < length start → Enters start width (i + 1) k v ↔ (Enters start width i k v ⊎ ((k ≡ i * width) × (v ≡ get_or start i 0)))
enters_more start width i k v lt = (
  λ (name, below, inside, e, f). elim (cases_eq name i) [
    | inl same ↦ inr (e ∙ ap (λ x. x * width) same, f ∙ ap (λ x. get_or start x 0) same)
    | inr ne ↦ inl (name, omega arith, inside, e, f)
  ],
  λ h. elim h [
    | inl (name, below, inside, e, f) ↦ (name, omega (arith, below), inside, e, f)
    | inr (e, f) ↦ (i, omega arith, lt, e, f)
  ],
)

-- one pair was taken

pub smaller : (w0 w1 w2 : Slots) (at : ℕ) → w0.waiting.items ≡ w1.waiting.items ++ at ∷ [] → w1.values ≡ w0.values → weight_of w2 ≤ weight_of w1 → weight_of w2 < weight_of w0
unfolding weight_of
smaller w0 w1 w2 at taken same le = omega (arith, le, ap length taken, length-append w1.waiting.items (at ∷ []), ap (λ v. ranks v.items) same)
