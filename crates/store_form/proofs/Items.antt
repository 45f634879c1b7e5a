-- Items that are taken off the front one after the other.
use Rattle.std.proofs.Common.{◌≡◌, ℕ, ◌+◌, ◌^◌, ◌<◌, List, [], ◌∷◌, ◌++◌, length, get_or, refl, sym, ap, ◌∙◌, subst, append_assoc, length-append, arith}
use Rattle.std.proofs.lemmas.List.{append-nil, get_or_at}
use Rattle.std.specs.List.{flat_map, All}
use Rattle.std.proofs.lemmas.Grind.{flat_map-append}
use Rattle.std.proofs.lemmas.List.Elements.{All-nil, All-push}
use Rattle.store_form.specs.Form.{number_bytes, list_bytes, IsNumber, IsListOf}

-- so many items were taken off the front of some bytes: these, and these bytes are left
pub record Taken {X : Type 0} (Is : X → Type 0) (bytes : X → List ℕ) (start : List ℕ) (count : ℕ) (at : ℕ) (xs : List X) (left : List ℕ) : Type 0 where
  pub many : length xs ≡ at
  pub all : All Is xs
  pub front : start ≡ flat_map bytes xs ++ left
  pub found : (ys : List X) (r : List ℕ) → All Is ys → length ys ≡ count → start ≡ flat_map bytes ys ++ r → (zs : List X) × (ys ≡ xs ++ zs) × (left ≡ flat_map bytes zs ++ r)

one_more : {X : Type 0} (bytes : X → List ℕ) (xs : List X) (x : X) → flat_map bytes (xs ++ x ∷ []) ≡ flat_map bytes xs ++ bytes x
one_more bytes xs x = flat_map-append bytes xs (x ∷ []) ∙ ap (λ (v : List ℕ). flat_map bytes xs ++ v) (append-nil (bytes x))

-- what holds of each item holds of one in the middle
middle : {X : Type 0} (Is : X → Type 0) (ys xs : List X) (z : X) (zs : List X) → ys ≡ xs ++ z ∷ zs → All Is ys → Is z
middle {X} Is ys xs z zs same all =
    subst Is (ap (λ (v : List X). get_or v (length xs) z) same ∙ get_or_at xs z zs z (length xs) refl) (all (length xs) z (omega (arith, ap (λ (v : List X). length v) same, length-append xs (z ∷ zs))))

module _ {X : Type 0} (Is : X → Type 0) (bytes : X → List ℕ) (start : List ℕ) (count : ℕ) where
  pub taken_none : Taken Is bytes start count 0 [] start
  taken_none = record { many = refl; all = All-nil Is; front = refl; found = λ ys r all l e. (ys, refl, e) }

  -- what was taken is all there was to take
  pub taken_all : (at : ℕ) (xs : List X) (left : List ℕ) → Taken Is bytes start count at xs left → at ≡ count → (ys : List X) (r : List ℕ) → All Is ys → length ys ≡ count → start ≡ flat_map bytes ys ++ r → (xs ≡ ys) × (left ≡ r)
  taken_all at xs left t end ys r all l e = ends (t.found ys r all l e)
    where
      ends : ((zs : List X) × (ys ≡ xs ++ zs) × (left ≡ flat_map bytes zs ++ r)) → (xs ≡ ys) × (left ≡ r)
      ends ([], same, rest) = (sym (append-nil xs) ∙ sym same, rest)
      ends (z ∷ zs, same, rest) = absurd (omega (arith, t.many, l, end, ap (λ (v : List X). length v) same, length-append xs (z ∷ zs)))

  -- the next item of any list that stands there
  pub next_item : (at : ℕ) (xs : List X) (left : List ℕ) → Taken Is bytes start count at xs left → at < count → (ys : List X) (r : List ℕ) → All Is ys → length ys ≡ count → start ≡ flat_map bytes ys ++ r → (z : X) × (zs : List X) × (Is z) × (ys ≡ xs ++ z ∷ zs) × (left ≡ bytes z ++ (flat_map bytes zs ++ r))
  next_item at xs left t lt ys r all l e = opens (t.found ys r all l e)
    where
      opens : ((zs : List X) × (ys ≡ xs ++ zs) × (left ≡ flat_map bytes zs ++ r)) → (z : X) × (zs : List X) × (Is z) × (ys ≡ xs ++ z ∷ zs) × (left ≡ bytes z ++ (flat_map bytes zs ++ r))
      opens ([], same, rest) = absurd (omega (arith, t.many, l, lt, ap (λ (v : List X). length v) (same ∙ append-nil xs)))
      opens (z ∷ zs, same, rest) = (z, zs, middle Is ys xs z zs same all, same, rest ∙ append_assoc (bytes z) (flat_map bytes zs) r)

  pub taken_more : (at : ℕ) (xs : List X) (left : List ℕ) → Taken Is bytes start count at xs left → at < count → (x : X) (new : List ℕ) → Is x → left ≡ bytes x ++ new → ((y : X) (r : List ℕ) → Is y → left ≡ bytes y ++ r → (x ≡ y) × (new ≡ r)) → Taken Is bytes start count (at + 1) (xs ++ x ∷ []) new
  taken_more at xs left t lt x new is e only = record {
    many = omega (arith, t.many, length-append xs (x ∷ []));
    all = All-push Is xs x t.all is;
    front = t.front ∙ ap (λ (v : List ℕ). flat_map bytes xs ++ v) e ∙ sym (append_assoc (flat_map bytes xs) (bytes x) new) ∙ ap (λ (v : List ℕ). v ++ new) (sym (one_more bytes xs x));
    found = λ ys r all l e'.
        let n = next_item at xs left t lt ys r all l e' in
        let o = only n.0 (flat_map bytes n.1 ++ r) n.2 n.4 in
        (n.1, n.3 ∙ ap (λ (v : X). xs ++ v ∷ n.1) (sym o.0) ∙ sym (append_assoc xs (x ∷ []) n.1), o.1);
  }

-- a list that stands at the front: its number of items, the items, and what is behind
pub list_stands : {X : Type 0} (bytes : X → List ℕ) (ys : List X) (old r : List ℕ) → old ≡ list_bytes bytes ys ++ r → old ≡ number_bytes (length ys) ++ (flat_map bytes ys ++ r)
list_stands bytes ys old r e = e ∙ append_assoc (number_bytes (length ys)) (flat_map bytes ys) r

-- a list whose number of items stood before its items
pub list_taken : {X : Type 0} (Is : X → Type 0) (bytes : X → List ℕ) (old start : List ℕ) (count at : ℕ) (xs ys : List X) (left : List ℕ) → Taken Is bytes start count at xs left → at ≡ count → IsNumber count → old ≡ number_bytes count ++ start → ys ≡ xs → IsListOf Is ys × (old ≡ list_bytes bytes ys ++ left)
list_taken {X} Is bytes old start count at xs ys left t end fits e same =
    let many : length ys ≡ count = ap (λ (v : List X). length v) same ∙ t.many ∙ end in (
      (subst (λ (n : ℕ). n < 2 ^ 32) (sym many) fits, subst (All Is) (sym same) t.all),
      e ∙ ap (λ (v : List ℕ). number_bytes count ++ v) t.front ∙ ap (λ (v : List X). number_bytes count ++ (flat_map bytes v ++ left)) (sym same)
          ∙ ap (λ (n : ℕ). number_bytes n ++ (flat_map bytes ys ++ left)) (sym many) ∙ sym (append_assoc (number_bytes (length ys)) (flat_map bytes ys) left),
    )
