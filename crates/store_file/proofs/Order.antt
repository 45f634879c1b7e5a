-- Lists in order, neighbour by neighbour.
use Rattle.std.proofs.Common.{◌≡◌, ℕ, zero, suc, ◌+◌, ◌-◌, ◌<◌, List, [], ◌∷◌, length, get_or, sym, ap, ◌∙◌, subst, arith}
use Rattle.std.specs.declared.cmp.Ordering.{Ordering}
use Rattle.std.specs.declared.cmp.Ordering.TheVariants.{Less}
use Rattle.std.proofs.lemmas.List.{get_or_default}
use borrow.Author.Count.{below_more}
use Rattle.tree_match.specs.Ascending.{IsAscending}

-- the items at these places ascend
abbrev pub NextAscends : {X : Type 0} → (X → X → Ordering) → List X → ℕ → ℕ → Type 0
NextAscends {X} R xs i j = (d : X) → R (get_or xs i d) (get_or xs j d) ≡ Less

module _ {X : Type 0} (R : X → X → Ordering) where
  next_ascends : (xs : List X) → IsAscending R xs → (i : ℕ) → suc i < length xs → NextAscends R xs i (suc i)
  next_ascends [] h i lt = absurd (omega arith)
  next_ascends (b ∷ []) h i lt = absurd (omega arith)
  next_ascends (b ∷ c ∷ cs) h zero lt = λ d. h.0
  next_ascends (b ∷ c ∷ cs) h (suc i) lt = λ d. next_ascends (c ∷ cs) h.1 i (omega arith) d

  next_all : (xs : List X) → ((i : ℕ) → suc i < length xs → NextAscends R xs i (suc i)) → IsAscending R xs
  next_all [] h = tt
  next_all (b ∷ []) h = tt
  next_all (b ∷ c ∷ cs) h = (h 0 (omega arith) b, next_all (c ∷ cs) (λ i lt d. h (suc i) (omega arith) d))

  pub some_ascend : (xs : List X) → IsAscending R xs → (j : ℕ) → 0 < j → j < length xs → NextAscends R xs (j - 1) j
  some_ascend xs h zero p lt = absurd (omega arith)
  some_ascend xs h (suc i) p lt = let e : i ≡ suc i - 1 = omega arith in subst (λ (k : ℕ). NextAscends R xs k (suc i)) e (next_ascends xs h i lt)

  pub all_ascend : (xs : List X) → ((j : ℕ) → 0 < j → j < length xs → NextAscends R xs (j - 1) j) → IsAscending R xs
  all_ascend xs h =
      next_all xs (λ i lt. let e : suc i - 1 ≡ i = omega arith in subst (λ (k : ℕ). NextAscends R xs k (suc i)) e (h (suc i) (omega arith) lt))

  same_orders : (xs : List X) (i j : ℕ) (a b d : X) → i < length xs → j < length xs → a ≡ get_or xs i a → b ≡ get_or xs j b → R a b ≡ R (get_or xs i d) (get_or xs j d)
  same_orders xs i j a b d li lj ea eb =
      ap (λ (x : X). R x b) (ea ∙ get_or_default xs i a d li) ∙ ap (λ (x : X). R (get_or xs i d) x) (eb ∙ get_or_default xs j b d lj)

  pub to_next : (xs : List X) (i j : ℕ) (a b : X) → i < length xs → j < length xs → a ≡ get_or xs i a → b ≡ get_or xs j b → R a b ≡ Less → NextAscends R xs i j
  to_next xs i j a b li lj ea eb h = λ d. sym (same_orders xs i j a b d li lj ea eb) ∙ h

  pub from_next : (xs : List X) (i j : ℕ) (a b : X) → i < length xs → j < length xs → a ≡ get_or xs i a → b ≡ get_or xs j b → NextAscends R xs i j → R a b ≡ Less
  from_next xs i j a b li lj ea eb h = same_orders xs i j a b a li lj ea eb ∙ h a

  -- one place more
  pub next_more : (xs : List X) (i : ℕ) → ((j : ℕ) → 0 < j → j < i → NextAscends R xs (j - 1) j) → NextAscends R xs (i - 1) i → (j : ℕ) → 0 < j → j < i + 1 → NextAscends R xs (j - 1) j
  next_more xs i below here j p lt = below_more (λ (m : ℕ). 0 < m → NextAscends R xs (m - 1) m) i (λ k l p'. below k p' l) (λ _. here) j lt p
