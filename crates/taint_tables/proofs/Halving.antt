-- What is found by halving, where items stand in the order of a number.
use Rattle.std.proofs.Common.{◌≡◌, ◌↔◌, inl, inr, ℕ, ◌+◌, ◌-◌, ◌≤◌, ◌<◌, true, false, List, length, take, drop, get_or, leb, ltb, sym, ap, ◌∙◌, subst, arith}
use Rattle.std.specs.Prelude.{Some, slice_get}
use Rattle.std.specs.List.Sorted.{IsPartitionPoint}
use Rattle.std.proofs.lemmas.Bool.{cases_lt, leb-true, le-leb}
use Rattle.std.proofs.lemmas.List.{get_or-drop, get_or-take, length-drop, length-take-le}
use Rattle.std.proofs.lemmas.Option.{slice_get_cases, slice_get_within, get_or_from_slice_get, slice_get-get_or}
use Rattle.graph_form.specs.Sets.{Among}
use Rattle.graph_form.proofs.Amongs.{among_at, among_place}

module _ {X : Type 0} (n : X → ℕ) (xs : List X) (t : ℕ) where
  -- the items up to a place are those with that number or a lesser one
  abbrev pub EndsThrough : ℕ → Type 0
  EndsThrough i = (k : ℕ) (x : X) → slice_get xs k ≡ Some x → (k < i) ↔ (n x ≤ t)

  -- the items up to a place are those with a lesser number
  abbrev pub EndsBefore : ℕ → Type 0
  EndsBefore i = (k : ℕ) (x : X) → slice_get xs k ≡ Some x → (k < i) ↔ (n x < t)

  pub through : (i : ℕ) → IsPartitionPoint (λ (x : X). leb (n x) t ≡ true) (λ (x : X). leb (n x) t ≡ false) xs i → EndsThrough i
  through i point k x got =
      let q : leb (n (get_or xs k x)) t ≡ leb (n x) t = ap (λ (z : X). leb (n z) t) (get_or_from_slice_get xs k x x got) in (
        λ less. leb-true _ _ (sym q ∙ point.0 k x (omega arith) less),
        λ small. elim (cases_lt k i) [
          | inl less ↦ less
          | inr ge ↦
              let large : leb (n x) t ≡ false = sym q ∙ point.1 k x ge (slice_get_within xs k x got) in
              let not_large : leb (n x) t ≡ true = le-leb _ _ small in
              absurd cc
        ],
      )

  pub before : (i : ℕ) → IsPartitionPoint (λ (x : X). ltb (n x) t ≡ true) (λ (x : X). ltb (n x) t ≡ false) xs i → EndsBefore i
  before i point k x got =
      let q : ltb (n (get_or xs k x)) t ≡ ltb (n x) t = ap (λ (z : X). ltb (n z) t) (get_or_from_slice_get xs k x x got) in (
        λ less. leb-true _ _ (sym q ∙ point.0 k x (omega arith) less),
        λ small. elim (cases_lt k i) [
          | inl less ↦ less
          | inr ge ↦
              let large : ltb (n x) t ≡ false = sym q ∙ point.1 k x ge (slice_get_within xs k x got) in
              let not_large : ltb (n x) t ≡ true = le-leb _ _ small in
              absurd cc
        ],
      )

  module _ (i j : ℕ) (i_in : i ≤ length xs) (j_in : j ≤ length xs) (first : EndsBefore i) (last : EndsThrough j) where
    -- they stand in this order
    pub in_order : i ≤ j
    in_order = elim (cases_lt j i) [ inl less ↦ absurd (turned less) | inr ge ↦ ge ]
      where
        turned : j < i → ⊥
        turned less = elim ((slice_get_cases xs j).1) [
          | inl (x, lt, got, e) ↦ (let small : n x < t = (first j x got).0 less in let inside : j < j = (last j x got).1 (omega (arith, small)) in omega (arith, inside))
          | inr (past, none) ↦ omega (arith, past, less, i_in)
        ]

    read : (k : ℕ) (x : X) → k < length xs → get_or xs k x ≡ x → slice_get xs k ≡ Some x
    read k x lt e = slice_get-get_or xs k x lt ∙ ap (λ z. Some z) e

    size : length (take (j - i) (drop i xs)) ≡ j - i
    size = length-take-le (j - i) (drop i xs) (omega (arith, length-drop i xs, in_order, j_in))

    -- the items with that number stand between the two places
    pub part_is : (x : X) → Among (take (j - i) (drop i xs)) x ↔ (Among xs x × (n x ≡ t))
    part_is x = (
      λ h.
          let (k, lt, e) = among_place x (take (j - i) (drop i xs)) x h in
          let inside : k < j - i = omega (arith, lt, size) in
          let at : get_or xs (i + k) x ≡ x = sym (get_or-take (j - i) (drop i xs) k x inside ∙ get_or-drop i xs k x) ∙ e in
          let within : i + k < length xs = omega (arith, inside, j_in) in
          let got = read (i + k) x within at in
          (subst (Among xs) at (among_at xs (i + k) x within), exact (i + k) x got (omega arith) (omega (arith, inside))),
      λ (among, e).
          let (k, lt, at) = among_place x xs x among in
          let got = read k x lt at in
          let (low, high) = bounds k x got e in
          let there : get_or (take (j - i) (drop i xs)) (k - i) x ≡ x = get_or-take (j - i) (drop i xs) (k - i) x (omega (arith, low, high)) ∙ get_or-drop i xs (k - i) x ∙ ap (λ m. get_or xs m x) (back k low) ∙ at in
          subst (Among (take (j - i) (drop i xs))) there (among_at (take (j - i) (drop i xs)) (k - i) x (omega (arith, size, low, high))),
    )
      where
        exact : (k : ℕ) (y : X) → slice_get xs k ≡ Some y → i ≤ k → k < j → n y ≡ t
        exact k y got low high = elim (cases_lt (n y) t) [
          | inl less ↦ absurd (omega (arith, (first k y got).1 less, low))
          | inr ge ↦ omega (arith, ge, (last k y got).0 high)
        ]

        bounds : (k : ℕ) (y : X) → slice_get xs k ≡ Some y → n y ≡ t → (i ≤ k) × (k < j)
        bounds k y got e = (
          elim (cases_lt k i) [ inl less ↦ absurd (omega (arith, (first k y got).0 less, e)) | inr ge ↦ ge ],
          (last k y got).1 (omega (arith, e)),
        )

        back : (k : ℕ) → i ≤ k → i + (k - i) ≡ k
        back k low = omega (arith, low)
