-- Loops that look for an item.
use Rattle.std.proofs.Common.{◌≡◌, ◌↔◌, ◌⊎◌, inl, inr, ℕ, ◌+◌, ◌<◌, ◌≤◌, List, [], ◌∷◌, ◌++◌, length, drop, get_or, refl, sym, subst, true}
use Rattle.std.specs.Prelude.{IsTrue}
use Rattle.std.proofs.lemmas.List.{drop_all}
use Rattle.meta_bind.proofs.Lookups.{opened}
use Rattle.node_match.specs.Sets.{Among}
use Rattle.sorted_sets.specs.Sizes.{Any}

pub any_cons : {X : Type 0} (P : X → Type 0) (x : X) (xs : List X) → Any P (x ∷ xs) ↔ (P x ⊎ Any P xs)
any_cons {X} P x xs = (to, from)
  where
    to : Any P (x ∷ xs) → P x ⊎ Any P xs
    to (y, inl e, p) = inl (subst P (sym e) p)
    to (y, inr h, p) = inr (y, h, p)

    from : P x ⊎ Any P xs → Any P (x ∷ xs)
    from (inl p) = (x, inl refl, p)
    from (inr (y, h, p)) = (y, inr h, p)

pub any_joined : {X : Type 0} (P : X → Type 0) (xs ys : List X) → Any P (xs ++ ys) ↔ (Any P xs ⊎ Any P ys)
any_joined {X} P xs ys = (λ a. to xs a.0 a.1 a.2, λ h. elim h [ inl a ↦ (a.0, left xs a.0 a.1, a.2) | inr a ↦ (a.0, right xs a.0 a.1, a.2) ])
  where
    to : (zs : List X) (x : X) → Among (zs ++ ys) x → P x → Any P zs ⊎ Any P ys
    to [] x a p = inr (x, a, p)
    to (z ∷ zs) x (inl e) p = inl (x, inl e, p)
    to (z ∷ zs) x (inr a) p = elim (to zs x a p) [ inl h ↦ inl (h.0, inr h.1, h.2) | inr h ↦ inr h ]

    left : (zs : List X) (x : X) → Among zs x → Among (zs ++ ys) x
    left [] x a = absurd a
    left (z ∷ zs) x (inl e) = inl e
    left (z ∷ zs) x (inr a) = inr (left zs x a)

    right : (zs : List X) (x : X) → Among ys x → Among (zs ++ ys) x
    right [] x a = a
    right (z ∷ zs) x a = inr (right zs x a)

module _ {X : Type 0} (P : X → Type 0) (xs : List X) (i : ℕ) where
  -- the item at i is such
  pub any_here : (x : X) → i < length xs → x ≡ get_or xs i x → P x → Any P (drop i xs)
  any_here x lt is p = let Q : List X → Type 0 = Any P in subst Q (sym (opened xs i x lt is)) ((any_cons P x (drop (i + 1) xs)).1 (inl p))

  -- the item at i isn't
  pub any_later : (x : X) → i < length xs → x ≡ get_or xs i x → (P x → ⊥) → Any P (drop i xs) ↔ Any P (drop (i + 1) xs)
  any_later x lt is none = (to, from)
    where
      past : P x ⊎ Any P (drop (i + 1) xs) → Any P (drop (i + 1) xs)
      past (inl p) = absurd (none p)
      past (inr a) = a

      to : Any P (drop i xs) → Any P (drop (i + 1) xs)
      to a = let Q : List X → Type 0 = Any P in past ((any_cons P x (drop (i + 1) xs)).0 (subst Q (opened xs i x lt is) a))

      from : Any P (drop (i + 1) xs) → Any P (drop i xs)
      from a = let Q : List X → Type 0 = Any P in subst Q (sym (opened xs i x lt is)) ((any_cons P x (drop (i + 1) xs)).1 (inr a))

  -- the item at i, and those after it
  pub any_parted : (x : X) → i < length xs → x ≡ get_or xs i x → Any P (drop i xs) ↔ (P x ⊎ Any P (drop (i + 1) xs))
  any_parted x lt is = let Q : List X → Type 0 = λ ys. Any P ys ↔ (P x ⊎ Any P (drop (i + 1) xs)) in subst Q (sym (opened xs i x lt is)) (any_cons P x (drop (i + 1) xs))

  pub any_end : length xs ≤ i → Any P (drop i xs) → ⊥
  any_end le a = let Q : List X → Type 0 = Any P in none (subst Q (drop_all i xs le) a)
    where
      none : Any P [] → ⊥
      none (x, h, p) = h

  -- the item at i is such, or a later one is
  pub any_step : (x : X) → i < length xs → x ≡ get_or xs i x → Any P (drop i xs) ↔ (P x ⊎ Any P (drop (i + 1) xs))
  any_step x lt is = let Q : List X → Type 0 = λ ys. Any P ys ↔ (P x ⊎ Any P (drop (i + 1) xs)) in subst Q (sym (opened xs i x lt is)) (any_cons P x (drop (i + 1) xs))

  -- the same beside another fact
  pub any_split : (N : Type 0) → (x : X) → i < length xs → x ≡ get_or xs i x → (Any P (drop i xs) × N) ↔ ((P x × N) ⊎ (Any P (drop (i + 1) xs) × N))
  any_split N x lt is = (to, from)
    where
      cases : P x ⊎ Any P (drop (i + 1) xs) → N → (P x × N) ⊎ (Any P (drop (i + 1) xs) × N)
      cases (inl p) n = inl (p, n)
      cases (inr a) n = inr (a, n)

      to : (Any P (drop i xs) × N) → (P x × N) ⊎ (Any P (drop (i + 1) xs) × N)
      to h = let Q : List X → Type 0 = Any P in cases ((any_cons P x (drop (i + 1) xs)).0 (subst Q (opened xs i x lt is) h.0)) h.1

      from : (P x × N) ⊎ (Any P (drop (i + 1) xs) × N) → Any P (drop i xs) × N
      from (inl h) = (any_here x lt is h.0, h.1)
      from (inr h) = (let Q : List X → Type 0 = Any P in subst Q (sym (opened xs i x lt is)) ((any_cons P x (drop (i + 1) xs)).1 (inr h.0)), h.1)

  pub any_none : (N : Type 0) → length xs ≤ i → (Any P (drop i xs) × N) → ⊥
  any_none N le h = any_end le h.0

  -- a search that ends at the item, or goes on
  pub found : (x : X) → Any P xs ↔ Any P (drop i xs) → i < length xs → x ≡ get_or xs i x → P x → IsTrue true ↔ Any P xs
  found x same lt is p = (λ _. same.1 (any_here x lt is p), λ _. refl)

  pub unfound : (x : X) → Any P xs ↔ Any P (drop i xs) → i < length xs → x ≡ get_or xs i x → (P x → ⊥) → Any P xs ↔ Any P (drop (i + 1) xs)
  unfound x same lt is none = let on = any_later x lt is none in (λ a. on.0 (same.0 a), λ a. same.1 (on.1 a))
