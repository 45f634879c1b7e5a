-- The steps of the loops.
use Rattle.std.proofs.Common.{◌≡◌, ℕ, zero, suc, ◌+◌, ◌*◌, ◌/◌, ◌%◌, ◌<◌, ◌⊎◌, ◌↔◌, inl, inr, List, [], ◌∷◌, ◌++◌, set, Some, false, IsTrue, sym, ◌∙◌, ap, subst, refl, arith}
use Rattle.std.specs.Prelude.{slice_get}
use Rattle.std.specs.Global.{Vec}
use Rattle.std.specs.Int.{bit_at}
use Rattle.std.proofs.lemmas.Bool.{cases_eq}
use Rattle.std.proofs.lemmas.Nat.Bits.{bit_at-zero}
use Rattle.graph_form.specs.declared.graph.Edge.{Edge}
use Rattle.graph_form.specs.Sets.{Among}
use Rattle.flow_reach.specs.declared.moves.Move.{Move}
use Rattle.flow_reach.specs.Adds.{Coded}
use Rattle.flow_reach.specs.Bits.{InWord, IsWithout}
use Rattle.flow_reach.specs.Spread.{At, AtPairs, AtEach, AddedBy, Added, Bits, Done, Dropped, RowHas}
use Rattle.flow_reach.proofs.Words.{place_in_word}

pub not_true : IsTrue false → ⊥
not_true t = cc

-- statements that stand for each other
pub both_ways : (A B D : Type 0) → (A ↔ B) → (B ↔ D) → (A ↔ D)
both_ways A B D p q = (λ a. q.0 (p.0 a), λ d. p.1 (q.1 d))

pub as_right : (A B X Y : Type 0) → (A ↔ (B ⊎ X)) → (X ↔ Y) → (A ↔ (B ⊎ Y))
as_right A B X Y f g = (
  λ a. elim (f.0 a) [ inl b ↦ inl b | inr x ↦ inr (g.0 x) ],
  λ h. elim h [ inl b ↦ f.1 (inl b) | inr y ↦ f.1 (inr (g.1 y)) ],
)

-- one part more
pub more : (A B I T U X : Type 0) → (B ↔ (A ⊎ X)) → (A ↔ (I ⊎ T)) → (U ↔ (T ⊎ X)) → (B ↔ (I ⊎ U))
more A B I T U X step all next = (
  λ b. elim (step.0 b) [ inl a ↦ elim (all.0 a) [ inl i ↦ inl i | inr t ↦ inr (next.1 (inl t)) ] | inr x ↦ inr (next.1 (inr x)) ],
  λ h. elim h [ inl i ↦ step.1 (inl (all.1 (inl i))) | inr u ↦ elim (next.0 u) [ inl t ↦ step.1 (inl (all.1 (inr t))) | inr x ↦ step.1 (inr x) ] ],
)

-- the same, where what there was is known by another set
pub either_way : (A B D T X Y : Type 0) → (A ↔ (B ⊎ X)) → (B ↔ T) → (X ↔ Y) → (D ↔ (T ⊎ Y)) → (A ↔ D)
either_way A B D T X Y step all same next = (
  λ a. elim (step.0 a) [ inl b ↦ next.1 (inl (all.0 b)) | inr x ↦ next.1 (inr (same.0 x)) ],
  λ d. elim (next.0 d) [ inl t ↦ step.1 (inl (all.1 t)) | inr y ↦ step.1 (inr (same.1 y)) ],
)

pub pair_is : (p : ℕ × ℕ) (a b : ℕ) → (p ≡ (a, b)) ↔ ((p.0 ≡ a) × (p.1 ≡ b))
pair_is p a b = (λ e. (ap (λ q. q.0) e, ap (λ q. q.1) e), λ h. λ i. (h.0 i, h.1 i))

pub edge_is : (e : Edge) (a b : ℕ) → (e ≡ record { from = a; to = b }) ↔ ((e.from ≡ a) × (e.to ≡ b))
edge_is e a b = (λ q. (ap (λ x. x.from) q, ap (λ x. x.to) q), λ h. λ i. record { from = h.0 i; to = h.1 i })

-- the facts at a point, one more
pub at_more : (base : ℕ) (xs ys : List ℕ) (y k : ℕ) → ((x : ℕ) → Among ys x ↔ (Among xs x ⊎ (y ≡ x))) → At base ys k ↔ (At base xs k ⊎ (k ≡ base + y))
at_more base xs ys y k split = (
  λ (f, among, e). elim ((split f).0 among) [ inl a ↦ inl (f, a, e) | inr q ↦ inr (e ∙ ap (λ z. base + z) (sym q)) ],
  λ h. elim h [
    | inl (f, a, e) ↦ (f, (split f).1 (inl a), e)
    | inr e ↦ (y, (split y).1 (inr refl), e)
  ],
)

-- the pairs, one more
pub pairs_more : (stride : ℕ) (xs ys : List (ℕ × ℕ)) (y : ℕ × ℕ) (k : ℕ) → ((x : ℕ × ℕ) → Among ys x ↔ (Among xs x ⊎ (y ≡ x))) → AtPairs stride ys k ↔ (AtPairs stride xs k ⊎ (k ≡ y.0 * stride + y.1))
pairs_more stride xs ys y k split = (
  λ (p, among, e). elim ((split p).0 among) [ inl a ↦ inl (p, a, e) | inr q ↦ inr (e ∙ ap (λ z. z.0 * stride + z.1) (sym q)) ],
  λ h. elim h [
    | inl (p, a, e) ↦ (p, (split p).1 (inl a), e)
    | inr e ↦ (y, (split y).1 (inr refl), e)
  ],
)

-- the points, one more
module _ (P : ℕ → Type 0) (xs ys : List ℕ) (y : ℕ) (split : (x : ℕ) → Among ys x ↔ (Among xs x ⊎ (y ≡ x))) where
  pub each_more : ((p : ℕ) × Among ys p × P p) ↔ (((p : ℕ) × Among xs p × P p) ⊎ P y)
  each_more = (
    λ (p, among, at). elim ((split p).0 among) [ inl a ↦ inl (p, a, at) | inr q ↦ inr (subst P (sym q) at) ],
    λ h. elim h [
      | inl (p, a, at) ↦ (p, (split p).1 (inl a), at)
      | inr at ↦ (y, (split y).1 (inr refl), at)
    ],
  )

-- the number in a word with one bit
pub one_number : (at bits k : ℕ) → ((i : ℕ) → (bit_at bits i ≡ 1) ↔ (i ≡ at % 64)) → InWord (at / 64) bits k ↔ (k ≡ at)
one_number at bits k one = (
  λ (e, b). place_in_word k at e ((one (k % 64)).0 b),
  λ e. (ap (λ x. x / 64) e, (one (k % 64)).1 (ap (λ x. x % 64) e)),
)

-- facts that are added with a fact, as a list of them
pub added_by : (points : List ℕ) (stride : ℕ) (adds : List ℕ) (fact : ℕ) (seconds : List ℕ) → ((x : ℕ) → Among seconds x ↔ Coded adds fact x) → (k : ℕ) → AtEach points stride seconds k ↔ AddedBy points stride adds fact k
added_by points stride adds fact seconds same k = (
  λ (p, among, (x, a, e)). (p, among, x, (same x).0 a, e),
  λ (p, among, x, a, e). (p, among, (x, (same x).1 a, e)),
)

-- the bits of a word that were gone through, one more
pub added_more : (points : List ℕ) (stride : ℕ) (adds : List ℕ) (base word left bit one next : ℕ) → (bit_at left bit ≡ 1) → ((i : ℕ) → bit_at left i ≡ 1 → bit_at word i ≡ 1) → bit < 64 → ((i : ℕ) → (bit_at one i ≡ 1) ↔ (i ≡ bit % 64)) → IsWithout left one next → (k : ℕ) → Added (Done word next) points stride adds base k ↔ (Added (Done word left) points stride adds base k ⊎ AddedBy points stride adds (base + bit) k)
added_more points stride adds base word left bit one next has sub small one_is without k =
    let b_is : bit % 64 ≡ bit = omega arith in (
      λ (b, (there, gone), by). elim (cases_eq b bit) [
        | inl e ↦ inr (let P : ℕ → Type 0 = λ x. AddedBy points stride adds (base + x) k in subst P e by)
        | inr n ↦ inl (b, (there, λ l. gone ((without b).1 (l, λ o. n ((one_is b).0 o ∙ b_is)))), by)
      ],
      λ h. elim h [
        | inl (b, (there, gone), by) ↦ (b, (there, λ l. gone ((without b).0 l).0), by)
        | inr by ↦ (bit, (sub bit has, λ l. ((without bit).0 l).1 ((one_is bit).1 (sym b_is))), by)
      ],
    )

pub added_none : (points : List ℕ) (stride : ℕ) (adds : List ℕ) (base word k : ℕ) → Added (Done word word) points stride adds base k → ⊥
added_none points stride adds base word k (b, (there, gone), by) = gone there

pub added_all : (points : List ℕ) (stride : ℕ) (adds : List ℕ) (base word left k : ℕ) → left ≡ 0 → Added (Done word left) points stride adds base k ↔ Added (Bits word) points stride adds base k
added_all points stride adds base word left k e = (
  λ (b, (there, gone), by). (b, there, by),
  λ (b, there, by). (b, (there, λ l. let z : bit_at left b ≡ 0 = ap (λ x. bit_at x b) e ∙ bit_at-zero b in omega (arith, l, z)), by),
)

-- the points whose dropped facts are there, one more
pub dropped_more : (rows : List Move) (stride to k : ℕ) (row : Move) → slice_get rows to ≡ Some row → Dropped rows stride (to + 1) k ↔ (Dropped rows stride to k ⊎ At (to * stride) row.drops k)
dropped_more rows stride to k row got = (
  λ (p, lt, r, g, at). elim (cases_eq p to) [
    | inl e ↦
        let G : ℕ → Type 0 = λ q. slice_get rows q ≡ Some r in
        let same : r ≡ row = let g1 = subst G e g in let q : Some r ≡ Some row = sym g1 ∙ got in cc in
        let P : ℕ → Type 0 = λ q. At (q * stride) r.drops k in
        let Q : Move → Type 0 = λ m. At (to * stride) m.drops k in
        inr (subst Q same (subst P e at))
    | inr n ↦ inl (p, omega (arith, lt), r, g, at)
  ],
  λ h. elim h [
    | inl (p, lt, r, g, at) ↦ (p, omega (arith, lt), r, g, at)
    | inr at ↦ (to, omega arith, row, got, at)
  ],
)

pub dropped_none : (rows : List Move) (stride k : ℕ) → Dropped rows stride 0 k → ⊥
dropped_none rows stride k (p, lt, r, g, at) = omega (arith, lt)

-- rows of a table
pub row_at : (t : List (Vec ℕ)) (i : ℕ) (row : Vec ℕ) (to : ℕ) → slice_get t i ≡ Some row → RowHas t i to ↔ Among row.items to
row_at [] i row to e = absurd cc
row_at (r ∷ rs) zero row to e = let q : r ≡ row = cc in let P : Vec ℕ → Type 0 = λ v. Among r.items to ↔ Among v.items to in subst P q (λ h. h, λ h. h)
row_at (r ∷ rs) (suc i) row to e = row_at rs i row to e

pub row_push : (t : List (Vec ℕ)) (i from : ℕ) (row new : Vec ℕ) (y to : ℕ) → slice_get t i ≡ Some row → ((x : ℕ) → Among new.items x ↔ (Among row.items x ⊎ (y ≡ x))) → RowHas (set t i new) from to ↔ (RowHas t from to ⊎ ((i ≡ from) × (y ≡ to)))
row_push [] i from row new y to e split = absurd cc
row_push (r ∷ rs) zero zero row new y to e split =
    let q : row ≡ r = cc in
    let P : Vec ℕ → Type 0 = λ v. Among new.items to ↔ (Among v.items to ⊎ (y ≡ to)) in
    let s = subst P q (split to) in
    (λ h. elim (s.0 h) [ inl a ↦ inl a | inr b ↦ inr (refl, b) ], λ h. elim h [ inl a ↦ s.1 (inl a) | inr b ↦ s.1 (inr b.1) ])
row_push (r ∷ rs) zero (suc from) row new y to e split = (λ h. inl h, λ h. elim h [ inl a ↦ a | inr b ↦ absurd (let z = b.0 in cc) ])
row_push (r ∷ rs) (suc i) zero row new y to e split = (λ h. inl h, λ h. elim h [ inl a ↦ a | inr b ↦ absurd (let z = b.0 in cc) ])
row_push (r ∷ rs) (suc i) (suc from) row new y to e split =
    let s = row_push rs i from row new y to e split in
    (λ h. elim (s.0 h) [ inl a ↦ inl a | inr b ↦ inr (ap suc b.0, b.1) ], λ h. elim h [ inl a ↦ s.1 (inl a) | inr b ↦ s.1 (inr (cc, b.1)) ])

pub rows_none : (t : List (Vec ℕ)) (new : Vec ℕ) (from to : ℕ) → ((from to : ℕ) → RowHas t from to → ⊥) → new.items ≡ [] → RowHas (t ++ new ∷ []) from to → ⊥
rows_none [] new zero to none e h = let P : List ℕ → Type 0 = λ xs. Among xs to in subst P e h
rows_none [] new (suc from) to none e h = h
rows_none (r ∷ rs) new zero to none e h = none zero to h
rows_none (r ∷ rs) new (suc from) to none e h = rows_none rs new from to (λ f t x. none (suc f) t x) e h
