-- Two lists of paths, each in order and each path once, are one where they have the same paths.
use Rattle.std.proofs.Common.{◌≡◌, ◌⊎◌, inl, inr, ℕ, zero, suc, List, [], ◌∷◌, Contains, refl, sym, ap, ◌∙◌, subst, arith}
use Rattle.std.specs.declared.cmp.Ordering.{Ordering}
use Rattle.std.specs.declared.cmp.Ordering.TheVariants.{Less, Equal, Greater}
use Rattle.std.specs.Ordering.{nat_cmp, ordering_reverse}
use Rattle.node_tree.proofs.Orders.{nat_order, lists_order}
use Rattle.meta_bind.proofs.Chains.{Follows, nat_chains, lists_chain}
use Rattle.scan_world.specs.Files.{path_cmp, PathsAscend}

abbrev pub Path : Type 0
Path = List ℕ

pub path_below : (x y z : Path) → path_cmp x y ≡ Less → path_cmp y z ≡ Less → path_cmp x z ≡ Less
path_below x y z e f =
    let P : Ordering → Type 0 = λ o. Follows o (path_cmp y z) (path_cmp x z) in
    let Q : Ordering → Type 0 = λ o. Follows Less o (path_cmp x z) in
    subst Q f (subst P e (lists_chain nat_cmp nat_chains x y z))

turned : (o : Ordering) → o ≡ ordering_reverse o → o ≡ Less → ⊥
turned Less f g = absurd cc
turned Equal f g = absurd cc
turned Greater f g = absurd cc

pub not_below_itself : (x : Path) → path_cmp x x ≡ Less → ⊥
not_below_itself x less = turned (path_cmp x x) ((lists_order nat_cmp nat_order).flip x x) less

-- the path is below each of these
abbrev pub Below : Path → List Path → Type 0
Below x [] = Unit {0}
Below x (y ∷ ys) = (path_cmp x y ≡ Less) × Below x ys

pub below_further : (x y : Path) (ys : List Path) → path_cmp x y ≡ Less → Below y ys → Below x ys
below_further x y [] less h = tt
below_further x y (z ∷ zs) less h = (path_below x y z less h.0, below_further x y zs less h.1)

pub tail_ascends : (x : Path) (xs : List Path) → PathsAscend (x ∷ xs) → PathsAscend xs
tail_ascends x [] up = tt
tail_ascends x (y ∷ ys) up = up.1

pub first_below : (x : Path) (xs : List Path) → PathsAscend (x ∷ xs) → Below x xs
first_below x [] up = tt
first_below x (y ∷ ys) up = (up.0, below_further x y ys up.0 (first_below y ys up.1))

here_or_later : (x y : Path) (xs : List Path) → Contains (x ∷ xs) y → (x ≡ y) ⊎ Contains xs y
here_or_later x y xs (zero, lt, is) = inl is
here_or_later x y xs (suc k, lt, is) = inr (k, omega (arith, lt), is)

here : (x : Path) (xs : List Path) → Contains (x ∷ xs) x
here x xs = (0, omega arith, refl)

later : (x y : Path) (xs : List Path) → Contains xs y → Contains (x ∷ xs) y
later x y xs (k, lt, is) = (suc k, omega (arith, lt), is)

nowhere : (y : Path) → Contains [] y → ⊥
nowhere y (k, lt, is) = absurd (omega (arith, lt))

below_any : (x y : Path) (xs : List Path) → Below x xs → Contains xs y → path_cmp x y ≡ Less
below_any x y [] below h = absurd (nowhere y h)
below_any x y (z ∷ zs) below h =
    let P : Path → Type 0 = λ w. path_cmp x w ≡ Less in
    elim (here_or_later z y zs h) [ inl e ↦ subst P e below.0 | inr l ↦ below_any x y zs below.1 l ]

-- each path of the one is one of the other
abbrev pub Within : List Path → List Path → Type 0
Within xs ys = (p : Path) → Contains xs p → Contains ys p

rest_within : (x y : Path) (xs ys : List Path) → x ≡ y → Below x xs → Within (x ∷ xs) (y ∷ ys) → Within xs ys
rest_within x y xs ys e below all p h =
    let P : Path → Type 0 = λ w. path_cmp x w ≡ Less in
    elim (here_or_later y p ys (all p (later x p xs h))) [
      | inl f ↦ absurd (not_below_itself x (subst P (sym (e ∙ f)) (below_any x p xs below h)))
      | inr l ↦ l
    ]

same_first : (x y : Path) (xs ys : List Path) → Below x xs → Below y ys → Within (x ∷ xs) (y ∷ ys) → Within (y ∷ ys) (x ∷ xs) → x ≡ y
same_first x y xs ys below below' all all' =
    elim (here_or_later y x ys (all x (here x xs))) [
      | inl e ↦ sym e
      | inr l ↦ elim (here_or_later x y xs (all' y (here y ys))) [
        | inl e ↦ e
        | inr m ↦ absurd (not_below_itself x (path_below x y x (below_any x y xs below m) (below_any y x ys below' l)))
      ]
    ]

pub one_list : (xs ys : List Path) → PathsAscend xs → PathsAscend ys → Within xs ys → Within ys xs → xs ≡ ys
one_list [] [] up up' all all' = refl
one_list [] (y ∷ ys) up up' all all' = absurd (nowhere y (all' y (here y ys)))
one_list (x ∷ xs) [] up up' all all' = absurd (nowhere x (all x (here x xs)))
one_list (x ∷ xs) (y ∷ ys) up up' all all' =
    let below = first_below x xs up in
    let below' = first_below y ys up' in
    let e = same_first x y xs ys below below' all all' in
    ap (λ (z : Path). z ∷ xs) e
    ∙ ap (λ (zs : List Path). y ∷ zs) (one_list xs ys (tail_ascends x xs up) (tail_ascends y ys up') (rest_within x y xs ys e below all) (rest_within y x ys xs (sym e) below' all'))
