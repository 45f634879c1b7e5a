-- Sets that loops gather.
use Rattle.std.proofs.Common.{◌≡◌, ◌⊎◌, inl, inr, ◌↔◌, ℕ, zero, suc, ◌<◌, ◌≤◌, List, [], ◌∷◌, ◌++◌, length, get_or, sym, subst, arith}
use Rattle.node_match.specs.Sets.{Among, Adds, AddsUpTo}

module _ (A B X L R W : Type 0) where
  -- what was gathered and what is left are the whole, once more is gathered
  pub gathered : (B ↔ (A ⊎ X)) → (L ↔ (X ⊎ R)) → ((A ⊎ L) ↔ W) → ((B ⊎ R) ↔ W)
  gathered more split all = (
    λ h. elim h [
      | inl b ↦ elim (more.0 b) [ inl a ↦ all.0 (inl a) | inr x ↦ all.0 (inr (split.1 (inl x))) ]
      | inr m ↦ all.0 (inr (split.1 (inr m)))
    ],
    λ w. elim (all.1 w) [
      | inl a ↦ inl (more.1 (inl a))
      | inr l ↦ elim (split.0 l) [ inl x ↦ inl (more.1 (inr x)) | inr m ↦ inr m ]
    ],
  )

pub gathered_all : (A L W : Type 0) → (L → ⊥) → ((A ⊎ L) ↔ W) → (A ↔ W)
gathered_all A L W none all = (λ a. all.0 (inl a), λ w. elim (all.1 w) [ inl a ↦ a | inr l ↦ absurd (none l) ])

module _ {X : Type 0} where
  among_left : (xs : List X) (y x : X) → Among xs x → Among (xs ++ y ∷ []) x
  among_left [] y x h = absurd h
  among_left (z ∷ zs) y x (inl e) = inl e
  among_left (z ∷ zs) y x (inr h) = inr (among_left zs y x h)

  among_last : (xs : List X) (y x : X) → y ≡ x → Among (xs ++ y ∷ []) x
  among_last [] y x e = inl e
  among_last (z ∷ zs) y x e = inr (among_last zs y x e)

  among_cases : (xs : List X) (y x : X) → Among (xs ++ y ∷ []) x → Among xs x ⊎ (y ≡ x)
  among_cases [] y x (inl e) = inr e
  among_cases [] y x (inr h) = absurd h
  among_cases (z ∷ zs) y x (inl e) = inl (inl e)
  among_cases (z ∷ zs) y x (inr h) = elim (among_cases zs y x h) [ inl a ↦ inl (inr a) | inr e ↦ inr e ]

  pub among_more : (xs : List X) (y x : X) → Among (xs ++ y ∷ []) x ↔ (Among xs x ⊎ (y ≡ x))
  among_more xs y x = (among_cases xs y x, λ h. elim h [ inl a ↦ among_left xs y x a | inr e ↦ among_last xs y x e ])

  -- an item is put at the end
  pub pushed : (old new : List X) (y : X) → new ≡ old ++ y ∷ [] → Adds old new (λ x. y ≡ x)
  pushed old new y e x = let P : List X → Type 0 = λ xs. Among xs x ↔ (Among old x ⊎ (y ≡ x)) in subst P (sym e) (among_more old y x)

-- the same set, said otherwise
pub adds_as : {X : Type 0} (old new : List X) (P Q : X → Type 0) → Adds old new P → ((x : X) → P x ↔ Q x) → Adds old new Q
adds_as old new P Q adds same x = (
  λ a. elim ((adds x).0 a) [ inl o ↦ inl o | inr p ↦ inr ((same x).0 p) ],
  λ a. elim a [ inl o ↦ (adds x).1 (inl o) | inr q ↦ (adds x).1 (inr ((same x).1 q)) ],
)

pub adds_none : {X : Type 0} (old : List X) (P : X → Type 0) → ((x : X) → P x → ⊥) → Adds old old P
adds_none old P none x = (λ a. inl a, λ a. elim a [ inl o ↦ o | inr p ↦ absurd (none x p) ])

pub plus_as : (A B P Q : Type 0) → (B ↔ (A ⊎ P)) → (P ↔ Q) → (B ↔ (A ⊎ Q))
plus_as A B P Q more same = (
  λ b. elim (more.0 b) [ inl a ↦ inl a | inr p ↦ inr (same.0 p) ],
  λ x. elim x [ inl a ↦ more.1 (inl a) | inr q ↦ more.1 (inr (same.1 q)) ],
)

pub plus_none : (A P : Type 0) → (P → ⊥) → (A ↔ (A ⊎ P))
plus_none A P none = (λ a. inl a, λ x. elim x [ inl a ↦ a | inr p ↦ absurd (none p) ])

pub chain : (A B C : Type 0) → (A ↔ B) → (B ↔ C) → (A ↔ C)
chain A B C f g = (λ a. g.0 (f.0 a), λ c. f.1 (g.1 c))

-- what two calls add
pub adds_two : {X : Type 0} (old mid new : List X) (P Q : X → Type 0) → Adds old mid P → Adds mid new Q → Adds old new (λ x. P x ⊎ Q x)
adds_two old mid new P Q one two x = (
  λ h. elim ((two x).0 h) [ inl a ↦ elim ((one x).0 a) [ inl b ↦ inl b | inr p ↦ inr (inl p) ] | inr q ↦ inr (inr q) ],
  λ h. elim h [ inl b ↦ (two x).1 (inl ((one x).1 (inl b))) | inr y ↦ elim y [ inl p ↦ (two x).1 (inl ((one x).1 (inr p))) | inr q ↦ (two x).1 (inr q) ] ],
)

-- an item that is there already
pub already : {X : Type 0} (xs : List X) (x : X) → Among xs x → Adds xs xs (λ y. x ≡ y)
already {X} xs x there y = (λ a. inl a, λ a. elim a [ inl h ↦ h | inr e ↦ (let P : X → Type 0 = λ z. Among xs z in subst P e there) ])

-- an item at a place is among the list
pub among_at : {X : Type 0} (xs : List X) (i : ℕ) (x : X) → i < length xs → x ≡ get_or xs i x → Among xs x
among_at [] i x lt is = absurd (omega arith)
among_at (y ∷ ys) zero x lt is = inl (sym is)
among_at (y ∷ ys) (suc i) x lt is = inr (among_at ys i x (omega arith) is)

-- ---- up to a number of items

pub adds_up : {X : Type 0} (most : ℕ) (old new : List X) (P : X → Type 0) → Adds old new P → AddsUpTo most old new P
adds_up most old new P adds = record { sound = λ x h. (adds x).0 h; whole = λ _. adds }

pub adds_up_as : {X : Type 0} (most : ℕ) (old new : List X) (P Q : X → Type 0) → AddsUpTo most old new P → ((x : X) → P x ↔ Q x) → AddsUpTo most old new Q
adds_up_as most old new P Q adds same = record {
  sound = λ x h. elim (adds.sound x h) [ inl a ↦ inl a | inr p ↦ inr ((same x).0 p) ];
  whole = λ few. adds_as old new P Q (adds.whole few) same;
}

-- the last of what was left is added
pub adds_up_last : {X : Type 0} (most : ℕ) (old mid new : List X) (P Left All : X → Type 0) → AddsUpTo most mid new P → ((x : X) → (Among mid x ⊎ Left x) ↔ (Among old x ⊎ All x)) → ((x : X) → P x ↔ Left x) → AddsUpTo most old new All
adds_up_last most old mid new P Left All adds gathers same = record {
  sound = λ x h. elim (adds.sound x h) [ inl a ↦ (gathers x).0 (inl a) | inr p ↦ (gathers x).0 (inr ((same x).0 p)) ];
  whole = λ few x.
      let step = plus_as (Among mid x) (Among new x) (P x) (Left x) (adds.whole few x) (same x) in
      (λ h. (gathers x).0 (step.0 h), λ h. step.1 ((gathers x).1 h));
}

-- more was gathered than is needed
pub adds_enough : {X : Type 0} (most : ℕ) (old mid new : List X) (P Left All : X → Type 0) → AddsUpTo most mid new P → ((x : X) → (Among mid x ⊎ Left x) ↔ (Among old x ⊎ All x)) → ((x : X) → P x → Left x) → most < length new → AddsUpTo most old new All
adds_enough most old mid new P Left All adds gathers part many = record {
  sound = λ x h. elim (adds.sound x h) [ inl a ↦ (gathers x).0 (inl a) | inr p ↦ (gathers x).0 (inr (part x p)) ];
  whole = λ few. absurd (omega arith);
}

-- the same of a part of the set
pub adds_over : {X : Type 0} (most : ℕ) (old new : List X) (P All : X → Type 0) → AddsUpTo most old new P → ((x : X) → P x → All x) → most < length new → AddsUpTo most old new All
adds_over most old new P All adds part many = record {
  sound = λ x h. elim (adds.sound x h) [ inl a ↦ inl a | inr p ↦ inr (part x p) ];
  whole = λ few. absurd (omega arith);
}

-- a part of the set is added, and then the whole
pub adds_again : {X : Type 0} (most : ℕ) (old mid new : List X) (P Q All : X → Type 0) → AddsUpTo most old mid P → length mid ≤ most → ((x : X) → P x → All x) → AddsUpTo most mid new Q → ((x : X) → Q x ↔ All x) → AddsUpTo most old new All
adds_again {X} most old mid new P Q All first few part second same = record {
  sound = sound;
  whole = λ few' x. (sound x, λ h. elim h [ inl a ↦ (second.whole few' x).1 (inl ((first.whole few x).1 (inl a))) | inr y ↦ (second.whole few' x).1 (inr ((same x).1 y)) ]);
}
  where
    sound : (x : X) → Among new x → Among old x ⊎ All x
    sound x h = elim (second.sound x h) [ inl a ↦ elim (first.sound x a) [ inl b ↦ inl b | inr p ↦ inr (part x p) ] | inr q ↦ inr ((same x).0 q) ]

-- all that is left to add is one item, and it is there
pub adds_settled : {X : Type 0} (most : ℕ) (old mid new : List X) (P Left All : X → Type 0) (one : X) → AddsUpTo most mid new P → ((x : X) → (Among mid x ⊎ Left x) ↔ (Among old x ⊎ All x)) → ((x : X) → P x → Left x)
    → ((x : X) → Left x → one ≡ x) → ((x : X) → All x → one ≡ x) → Among new one → AddsUpTo most old new All
adds_settled {X} most old mid new P Left All one adds gathers part left all there = record {
  sound = sound;
  whole = λ few x. (sound x, λ h. elim h [ inl o ↦ elim ((gathers x).1 (inl o)) [ inl m ↦ (adds.whole few x).1 (inl m) | inr l ↦ is_there x (left x l) ] | inr a ↦ is_there x (all x a) ]);
}
  where
    sound : (x : X) → Among new x → Among old x ⊎ All x
    sound x h = elim (adds.sound x h) [ inl a ↦ (gathers x).0 (inl a) | inr p ↦ (gathers x).0 (inr (part x p)) ]

    is_there : (x : X) → one ≡ x → Among new x
    is_there x e = let Q : X → Type 0 = λ y. Among new y in subst Q e there
