-- Items of lists, and what loops add to them.
use Rattle.std.proofs.Common.{◌≡◌, ◌⊎◌, inl, inr, ◌↔◌, ℕ, zero, suc, ◌+◌, ◌<◌, List, [], ◌∷◌, ◌++◌, length, map, reverse, drop, get_or, refl, sym, ap, ◌∙◌, subst, Some, Ok, append_assoc, append-nil, arith}
use Rattle.std.specs.Prelude.{Result, Err, OnOk, slice_get}
use Rattle.std.specs.List.{flat_map}
use Rattle.std.proofs.lemmas.List.{reverse-append}
use Rattle.std.proofs.lemmas.Option.{slice_get_within, slice_get_read, slice_get_cases}
use Rattle.meta_bind.proofs.Lookups.{opened}
use Rattle.node_match.specs.Sets.{Among, Adds}

module _ {X : Type 0} where
  pub among_left : (xs ys : List X) (x : X) → Among xs x → Among (xs ++ ys) x
  among_left [] ys x h = absurd h
  among_left (z ∷ zs) ys x (inl e) = inl e
  among_left (z ∷ zs) ys x (inr h) = inr (among_left zs ys x h)

  pub among_right : (xs ys : List X) (x : X) → Among ys x → Among (xs ++ ys) x
  among_right [] ys x h = h
  among_right (z ∷ zs) ys x h = inr (among_right zs ys x h)

  pub among_either : (xs ys : List X) (x : X) → Among (xs ++ ys) x → Among xs x ⊎ Among ys x
  among_either [] ys x h = inr h
  among_either (z ∷ zs) ys x (inl e) = inl (inl e)
  among_either (z ∷ zs) ys x (inr h) = elim (among_either zs ys x h) [ inl a ↦ inl (inr a) | inr b ↦ inr b ]

  pub among_map : {Y : Type 0} (f : X → Y) (xs : List X) (x : X) → Among xs x → Among (map f xs) (f x)
  among_map f [] x h = absurd h
  among_map f (z ∷ zs) x (inl e) = inl (ap f e)
  among_map f (z ∷ zs) x (inr h) = inr (among_map f zs x h)

  pub get_among : (xs : List X) (i : ℕ) (x : X) → slice_get xs i ≡ Some x → Among xs x
  get_among [] i x e = absurd cc
  get_among (y ∷ ys) zero x e = inl cc
  get_among (y ∷ ys) (suc i) x e = inr (get_among ys i x e)

  pub among_get : (xs : List X) (x : X) → Among xs x → (i : ℕ) × (slice_get xs i ≡ Some x)
  among_get [] x h = absurd h
  among_get (y ∷ ys) x (inl e) = (0, ap (λ (z : X). Some z) e)
  among_get (y ∷ ys) x (inr h) = let r = among_get ys x h in (suc r.0, r.1)

  pub one_there : (xs : List X) (i j : ℕ) (x y : X) → slice_get xs i ≡ Some x → slice_get xs j ≡ Some y → i ≡ j → x ≡ y
  one_there xs i j x y a b e = let f = sym a ∙ ap (slice_get xs) e ∙ b in cc

  -- the list has these items more
  pub appended : (old new more : List X) (P : X → Type 0) → new ≡ old ++ more → ((x : X) → Among more x ↔ P x) → Adds old new P
  appended old new more P e same x =
      let Q : List X → Type 0 = λ ys. Among ys x ↔ (Among old x ⊎ P x) in
      subst Q (sym e) (
        λ h. elim (among_either old more x h) [ inl a ↦ inl a | inr b ↦ inr ((same x).0 b) ],
        λ h. elim h [ inl a ↦ among_left old more x a | inr p ↦ among_right old more x ((same x).1 p) ],
      )

  pub adds_both : (a b c : List X) (P Q R : X → Type 0) → Adds a b P → Adds b c Q → ((x : X) → (P x ⊎ Q x) ↔ R x) → Adds a c R
  adds_both a b c P Q R first second same x = (
    λ h. elim ((second x).0 h) [
      | inl k ↦ elim ((first x).0 k) [ inl o ↦ inl o | inr p ↦ inr ((same x).0 (inl p)) ]
      | inr q ↦ inr ((same x).0 (inr q))
    ],
    λ h. elim h [
      | inl o ↦ (second x).1 (inl ((first x).1 (inl o)))
      | inr r ↦ elim ((same x).1 r) [ inl p ↦ (second x).1 (inl ((first x).1 (inr p))) | inr q ↦ (second x).1 (inr q) ]
    ],
  )

pub among_flat : {X Y : Type 0} (f : X → List Y) (xs : List X) (y : Y) → Among (flat_map f xs) y → (x : X) × Among xs x × Among (f x) y
among_flat f [] y h = absurd h
among_flat f (x ∷ xs) y h = elim (among_either (f x) (flat_map f xs) y h) [ inl a ↦ (x, inl refl, a) | inr b ↦ (let r = among_flat f xs y b in (r.0, inr r.1, r.2)) ]

pub flat_among : {X Y : Type 0} (f : X → List Y) (xs : List X) (x : X) (y : Y) → Among xs x → Among (f x) y → Among (flat_map f xs) y
flat_among f [] x y h k = absurd h
flat_among {X} {Y} f (z ∷ zs) x y (inl e) k = let P : X → Type 0 = λ w. Among (f w) y in among_left (f z) (flat_map f zs) y (subst P (sym e) k)
flat_among f (z ∷ zs) x y (inr h) k = among_right (f z) (flat_map f zs) y (flat_among f zs x y h k)

-- a list to which each item of another adds its part
pub flat_step : {X Y : Type 0} (f : X → List Y) (old new : List Y) (x : X) (left rest : List X) (W : List Y) → old ++ flat_map f left ≡ W → left ≡ x ∷ rest → new ≡ old ++ f x → new ++ flat_map f rest ≡ W
flat_step {X} {Y} f old new x left rest W h left-is new-is =
    ap (λ (ys : List Y). ys ++ flat_map f rest) new-is ∙ append_assoc old (f x) (flat_map f rest) ∙ sym (ap (λ (xs : List X). old ++ flat_map f xs) left-is) ∙ h

pub flat_none : {X Y : Type 0} (f : X → List Y) (old : List Y) (x : X) (left rest : List X) (W : List Y) → old ++ flat_map f left ≡ W → left ≡ x ∷ rest → f x ≡ [] → old ++ flat_map f rest ≡ W
flat_none {X} {Y} f old x left rest W h left-is none = sym (ap (λ (xs : List X). old ++ flat_map f xs) left-is ∙ ap (λ (ys : List Y). old ++ (ys ++ flat_map f rest)) none) ∙ h

pub flat_end : {X Y : Type 0} (f : X → List Y) (old : List Y) (left : List X) (W : List Y) → old ++ flat_map f left ≡ W → left ≡ [] → old ≡ W
flat_end {X} {Y} f old left W h left-is = sym (ap (λ (xs : List X). old ++ flat_map f xs) left-is ∙ append-nil old) ∙ h

-- a list to which each item of another adds one
pub map_step : {X Y : Type 0} (f : X → Y) (old new : List Y) (x : X) (left rest : List X) (W : List Y) → old ++ map f left ≡ W → left ≡ x ∷ rest → new ≡ old ++ f x ∷ [] → new ++ map f rest ≡ W
map_step {X} {Y} f old new x left rest W h left-is new-is =
    ap (λ (ys : List Y). ys ++ map f rest) new-is ∙ append_assoc old (f x ∷ []) (map f rest) ∙ sym (ap (λ (xs : List X). old ++ map f xs) left-is) ∙ h

pub map_end : {X Y : Type 0} (f : X → Y) (old : List Y) (left : List X) (W : List Y) → old ++ map f left ≡ W → left ≡ [] → old ≡ W
map_end {X} {Y} f old left W h left-is = sym (ap (λ (xs : List X). old ++ map f xs) left-is ∙ append-nil old) ∙ h

-- the last of these items is put behind those
pub turned : {X : Type 0} (from from' to to' : List X) (x : X) (W : List X) → from ≡ from' ++ x ∷ [] → to' ≡ to ++ x ∷ [] → from ++ reverse to ≡ W → from' ++ reverse to' ≡ W
turned {X} from from' to to' x W from-is to-is h =
    ap (λ (l : List X). from' ++ reverse l) to-is ∙ ap (λ (l : List X). from' ++ l) (reverse-append to (x ∷ [])) ∙ sym (append_assoc from' (x ∷ []) (reverse to))
    ∙ ap (λ (l : List X). l ++ reverse to) (sym from-is) ∙ h

-- what is read at a place of a list is what the same list has there
pub read_there : {X : Type 0} (xs ys : List X) (i : ℕ) (x y : X) → xs ≡ ys → x ≡ get_or xs i x → slice_get ys i ≡ Some y → x ≡ y
read_there {X} xs ys i x y e is at =
    let P : List X → Type 0 = λ zs. x ≡ get_or zs i x in
    let f = sym (slice_get_read ys (length ys) i x refl (slice_get_within ys i y at) (subst P e is)) ∙ at in
    cc

-- the item at a place that is there
pub there_is : {X : Type 0} (xs : List X) (i : ℕ) → i < length xs → (x : X) × (slice_get xs i ≡ Some x) × (drop i xs ≡ x ∷ drop (i + 1) xs)
there_is xs i lt = elim ((slice_get_cases xs i).1) [ inl h ↦ (h.0, h.2, opened xs i h.0 lt (sym h.3)) | inr k ↦ (let le = k.0 in absurd (omega (arith, lt, le))) ]

-- ---- results

pub on_ok : {A E : Type 0} (X : Type 0) (r : Result A E) → X → OnOk r X
on_ok X (Ok a) h = h
on_ok X (Err e) h = tt

pub on_ok_map : {A E X Y : Type 0} (r : Result A E) → (X → Y) → OnOk r X → OnOk r Y
on_ok_map (Ok a) f h = f h
on_ok_map (Err e) f h = tt
