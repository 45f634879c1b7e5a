-- Items that are taken off the front one after the other, up to the end.
use Rattle.std.proofs.Common.{◌≡◌, ℕ, ◌<◌, List, [], ◌∷◌, ◌++◌, length, get_or, refl, sym, ap, ◌∙◌, subst, append_assoc, length-append, arith}
use Rattle.std.proofs.lemmas.List.{append-nil, get_or_at}
use Rattle.std.specs.List.{flat_map, All}
use Rattle.std.proofs.lemmas.Grind.{flat_map-append}
use Rattle.std.proofs.lemmas.List.Elements.{All-nil, All-push}

-- these items were taken off the front of some bytes, and these bytes are left
pub record Took {X : Type 0} (Is : X → Type 0) (bytes : X → List ℕ) (start : List ℕ) (xs : List X) (left : List ℕ) : Type 0 where
  pub all : All Is xs
  pub front : start ≡ flat_map bytes xs ++ left
  pub found : (ys : List X) → All Is ys → start ≡ flat_map bytes ys → (zs : List X) × (ys ≡ xs ++ zs) × (left ≡ flat_map bytes zs)

one_more : {X : Type 0} (bytes : X → List ℕ) (xs : List X) (x : X) → flat_map bytes (xs ++ x ∷ []) ≡ flat_map bytes xs ++ bytes x
one_more bytes xs x = flat_map-append bytes xs (x ∷ []) ∙ ap (λ (v : List ℕ). flat_map bytes xs ++ v) (append-nil (bytes x))

-- what holds of each item holds of one in the middle
middle : {X : Type 0} (Is : X → Type 0) (ys xs : List X) (z : X) (zs : List X) → ys ≡ xs ++ z ∷ zs → All Is ys → Is z
middle {X} Is ys xs z zs same all =
    subst Is (ap (λ (v : List X). get_or v (length xs) z) same ∙ get_or_at xs z zs z (length xs) refl) (all (length xs) z (omega (arith, ap (λ (v : List X). length v) same, length-append xs (z ∷ zs))))

module _ {X : Type 0} (Is : X → Type 0) (bytes : X → List ℕ) (start : List ℕ) where
  pub took_none : Took Is bytes start [] start
  took_none = record { all = All-nil Is; front = refl; found = λ ys all e. (ys, refl, e) }

  -- the next item of any list that stands there, where something is left
  pub next_item : (xs : List X) (left : List ℕ) → Took Is bytes start xs left → 0 < length left → (ys : List X) → All Is ys → start ≡ flat_map bytes ys → (z : X) × (zs : List X) × (Is z) × (ys ≡ xs ++ z ∷ zs) × (left ≡ bytes z ++ flat_map bytes zs)
  next_item xs left t some ys all e = opens (t.found ys all e)
    where
      opens : ((zs : List X) × (ys ≡ xs ++ zs) × (left ≡ flat_map bytes zs)) → (z : X) × (zs : List X) × (Is z) × (ys ≡ xs ++ z ∷ zs) × (left ≡ bytes z ++ flat_map bytes zs)
      opens ([], same, rest) = absurd (omega (arith, some, ap (λ (v : List ℕ). length v) rest))
      opens (z ∷ zs, same, rest) = (z, zs, middle Is ys xs z zs same all, same, rest)

  pub took_more : (xs : List X) (left : List ℕ) → Took Is bytes start xs left → 0 < length left → (x : X) (new : List ℕ) → Is x → left ≡ bytes x ++ new → ((y : X) (r : List ℕ) → Is y → left ≡ bytes y ++ r → (x ≡ y) × (new ≡ r)) → Took Is bytes start (xs ++ x ∷ []) new
  took_more xs left t some x new is e only = record {
    all = All-push Is xs x t.all is;
    front = t.front ∙ ap (λ (v : List ℕ). flat_map bytes xs ++ v) e ∙ sym (append_assoc (flat_map bytes xs) (bytes x) new) ∙ ap (λ (v : List ℕ). v ++ new) (sym (one_more bytes xs x));
    found = λ ys all e'.
        let n = next_item xs left t some ys all e' in
        let o = only n.0 (flat_map bytes n.1) n.2 n.4 in
        (n.1, n.3 ∙ ap (λ (v : X). xs ++ v ∷ n.1) (sym o.0) ∙ sym (append_assoc xs (x ∷ []) n.1), o.1);
  }

  -- where nothing is left, what was taken is all, since each item has a byte
  pub took_all : ((x : X) → Is x → 0 < length (bytes x)) → (xs : List X) (left : List ℕ) → Took Is bytes start xs left → length left ≡ 0 → (ys : List X) → All Is ys → start ≡ flat_map bytes ys → xs ≡ ys
  took_all some xs left t none ys all e = ends (t.found ys all e)
    where
      ends : ((zs : List X) × (ys ≡ xs ++ zs) × (left ≡ flat_map bytes zs)) → xs ≡ ys
      ends ([], same, rest) = sym (append-nil xs) ∙ sym same
      ends (z ∷ zs, same, rest) = absurd (omega (arith, none, some z (middle Is ys xs z zs same all), ap (λ (v : List ℕ). length v) rest, length-append (bytes z) (flat_map bytes zs)))
