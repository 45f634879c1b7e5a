-- Paths in order with one path more.
use Rattle.std.proofs.Common.{◌≡◌, ◌⊎◌, inl, inr, ◌↔◌, ℕ, zero, suc, ◌+◌, ◌-◌, ◌<◌, ◌≤◌, List, [], ◌∷◌, ◌++◌, length, take, drop, get_or, Contains, refl, sym, ap, ◌∙◌, subst, arith}
use Rattle.std.specs.declared.cmp.Ordering.TheVariants.{Less}
use Rattle.std.proofs.lemmas.List.{take-append-drop}
use Rattle.std.proofs.lemmas.List.Elements.{Contains-append_left, Contains-append_right, Contains-append_cases}
use Rattle.scan_world.specs.Files.{path_cmp, PathsAscend}

abbrev Path : Type 0
Path = List ℕ

-- the path is below the first of these
abbrev pub IsBelow : Path → List Path → Type 0
IsBelow x [] = Unit {0}
IsBelow x (y ∷ ys) = path_cmp x y ≡ Less

put_first : (x : Path) (xs : List Path) → IsBelow x xs → PathsAscend xs → PathsAscend (x ∷ xs)
put_first x [] below up = tt
put_first x (y ∷ ys) below up = (below, up)

tail_up : (x : Path) (xs : List Path) → PathsAscend (x ∷ xs) → PathsAscend xs
tail_up x [] up = tt
tail_up x (y ∷ ys) up = up.1

put_after : (xs : List Path) (i : ℕ) (prev x : Path) → PathsAscend xs → i < length xs → prev ≡ get_or xs i prev → path_cmp prev x ≡ Less → IsBelow x (drop (suc i) xs)
    → PathsAscend (take (suc i) xs ++ x ∷ drop (suc i) xs)
put_after [] i prev x up lt is above below = absurd (omega arith)
put_after (y ∷ ys) zero prev x up lt is above below = (ap (λ z. path_cmp z x) (sym is) ∙ above, put_first x ys below (tail_up y ys up))
put_after (y ∷ []) (suc i) prev x up lt is above below = absurd (omega arith)
put_after (y ∷ z ∷ zs) (suc i) prev x up lt is above below = (up.0, put_after (z ∷ zs) i prev x up.1 (omega arith) is above below)

-- the path at a place that is there, whatever stands for one that isn't
any_default : (xs : List Path) (i : ℕ) (d e : Path) → i < length xs → get_or xs i d ≡ get_or xs i e
any_default [] i d e lt = absurd (omega arith)
any_default (x ∷ xs) zero d e lt = refl
any_default (x ∷ xs) (suc i) d e lt = any_default xs i d e (omega arith)

-- the path before that place, if there is one, is below x
abbrev pub IsAbove : List Path → ℕ → Path → Type 0
IsAbove xs i x = (prev : Path) → 0 < i → prev ≡ get_or xs (i - 1) prev → path_cmp prev x ≡ Less

-- y, at this place, is below x
pub above_at : (xs : List Path) (x y : Path) (i : ℕ) → i < length xs → y ≡ get_or xs i y → path_cmp y x ≡ Less → IsAbove xs (i + 1) x
above_at xs x y i lt is less prev some prev-is =
    let P : Path → Type 0 = λ z. path_cmp z x ≡ Less in
    let at : i + 1 - 1 ≡ i = omega arith in
    subst P (sym (prev-is ∙ ap (λ j. get_or xs j prev) at ∙ any_default xs i prev y lt ∙ sym is)) less

-- x, which is below y at this place, is below what is left from there
pub below_at : (xs : List Path) (x y : Path) (i : ℕ) → i < length xs → y ≡ get_or xs i y → path_cmp x y ≡ Less → IsBelow x (drop i xs)
below_at [] x y i lt is less = absurd (omega arith)
below_at (z ∷ zs) x y zero lt is less = ap (λ w. path_cmp x w) (sym is) ∙ less
below_at (z ∷ zs) x y (suc i) lt is less = below_at zs x y i (omega arith) is less

-- x belongs at a place between one path and the next
pub place_between : (xs : List Path) (x : Path) (i j : ℕ) → PathsAscend xs → i ≤ j → j ≤ i → j ≤ length xs → IsAbove xs i x → IsBelow x (drop j xs)
    → (i ≤ length xs) × PathsAscend (take i xs ++ x ∷ drop i xs)
place_between xs x zero zero up le ge within above below = (omega arith, put_first x xs below up)
place_between xs x zero (suc j) up le ge within above below = absurd (omega arith)
place_between xs x (suc i) j up le ge within above below =
    let e : j ≡ suc i = omega arith in
    let P : ℕ → Type 0 = λ k. IsBelow x (drop k xs) in
    let at : suc i - 1 ≡ i = omega arith in
    let prev = get_or xs i x in
    let is : prev ≡ get_or xs i prev = any_default xs i x prev (omega arith) in
    (omega arith, put_after xs i prev x up (omega arith) is (above prev (omega arith) (is ∙ ap (λ k. get_or xs k prev) (sym at))) (subst P e below))

-- a path at a place is one of the paths
pub contains_at : (xs : List Path) (i : ℕ) (x y : Path) → i < length xs → y ≡ get_or xs i y → x ≡ y → Contains xs x
contains_at xs i x y lt is same = (i, lt, any_default xs i x y lt ∙ sym is ∙ sym same)

contains_alone : (x y : Path) → Contains (x ∷ []) y → x ≡ y
contains_alone x y (zero, lt, is) = is
contains_alone x y (suc k, lt, is) = absurd (omega arith)

-- one path more among two parts of a list
pub inserted : (xs : List Path) (i : ℕ) (x y : Path) → Contains (take i xs ++ x ∷ drop i xs) y ↔ (Contains xs y ⊎ (x ≡ y))
inserted xs i x y =
    let P : List Path → Type 0 = λ zs. Contains zs y in
    let whole = take-append-drop i xs in (
      λ h. elim (Contains-append_cases (take i xs) (x ∷ drop i xs) y h) [
        | inl a ↦ inl (subst P whole (Contains-append_left (take i xs) (drop i xs) y a))
        | inr b ↦ elim (Contains-append_cases (x ∷ []) (drop i xs) y b) [
          | inl e ↦ inr (contains_alone x y e)
          | inr c ↦ inl (subst P whole (Contains-append_right (take i xs) (drop i xs) y c))
        ]
      ],
      λ h. elim h [
        | inl a ↦ elim (Contains-append_cases (take i xs) (drop i xs) y (subst P (sym whole) a)) [
          | inl b ↦ Contains-append_left (take i xs) (x ∷ drop i xs) y b
          | inr c ↦ Contains-append_right (take i xs) (x ∷ drop i xs) y (Contains-append_right (x ∷ []) (drop i xs) y c)
        ]
        | inr e ↦ Contains-append_right (take i xs) (x ∷ drop i xs) y (Contains-append_left (x ∷ []) (drop i xs) y (0, omega arith, e))
      ],
    )

pub already : (xs : List Path) (x y : Path) → Contains xs x → Contains xs y ↔ (Contains xs y ⊎ (x ≡ y))
already xs x y there = (λ h. inl h, λ h. elim h [ inl a ↦ a | inr e ↦ (let P : Path → Type 0 = λ z. Contains xs z in subst P e there) ])
