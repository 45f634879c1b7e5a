-- What a map has after its values were looked at one by one.
use Rattle.std.proofs.Common.{◌≡◌, List, [], ◌∷◌, refl, sym, ap, ◌∙◌, subst, Bool, true, false, cond}
use Rattle.std.specs.Prelude.{Option, None, Some}
use Rattle.std.specs.List.{AllByRecursion}
use Rattle.std.specs.List.Sorted.{IsStrictlySortedBy}
use Rattle.std.specs.declared.cmp.Ordering.{Ordering}
use Rattle.std.specs.declared.cmp.Ordering.TheVariants.{Less}
use Rattle.std.specs.Ordering.{is_eq}
use Rattle.std.specs.Cmp.{IsTotalOrder}
use Rattle.std.specs.Map.{lookup, keys_of}
use Rattle.std.specs.Map.Calls.{RetainsPairs}
use Rattle.piece_store.proofs.ByNumber.{is_equal}

-- a map of which `retain` changes values and takes out values: after is what is seen of the map afterwards, and before what is
-- seen of it before, at the key that the test tells
module _ {K X F O : Type 0} (R : K → K → Ordering) (T : F → K → X → Bool → X → F → Type 0) (test : K → Bool) (apart : (x y : K) → test x ≡ true → R x y ≡ Less → test y ≡ false)
    (after before : Option X → O) (none : after None ≡ before None)
    (f : F) (keeps : (k : K) (v : X) (b : Bool) (w : X) (f' : F) → T f k v b w f' → (test k ≡ true → b ≡ true → after (Some w) ≡ before (Some v)) × (test k ≡ true → b ≡ false → after None ≡ before (Some v)) × (f' ≡ f)) where
  none_after : (k : K) (es : List (K × X)) → test k ≡ true → AllByRecursion (λ y. R k y ≡ Less) (keys_of es) → lookup test es ≡ None
  none_after k [] e all = refl
  none_after k (x ∷ xs) e all = ap (λ (b : Bool). cond b (Some x.1) (lookup test xs)) (apart k x.0 e all.0) ∙ none_after k xs e all.1

  pub retained : (es kept : List (K × X)) → IsStrictlySortedBy R (keys_of es) → RetainsPairs T f es kept → after (lookup test kept) ≡ before (lookup test es)
  unfolding IsStrictlySortedBy
  retained [] kept up e = ap (λ (xs : List (K × X)). after (lookup test xs)) e ∙ none
  retained (x ∷ xs) kept up (b, w, f', rest, t, more, e) =
      let k = keeps x.0 x.1 b w f' t in
      let P : F → Type 0 = λ g. RetainsPairs T g xs rest in
      ap (λ (xs : List (K × X)). after (lookup test xs)) e ∙ by b (test x.0) refl k.0 k.1 (retained xs rest up.1 (subst P k.2 more))
    where
      by : (b c : Bool) → test x.0 ≡ c → (test x.0 ≡ true → b ≡ true → after (Some w) ≡ before (Some x.1)) → (test x.0 ≡ true → b ≡ false → after None ≡ before (Some x.1)) → after (lookup test rest) ≡ before (lookup test xs)
          → after (lookup test (cond b ((x.0, w) ∷ rest) rest)) ≡ before (cond (test x.0) (Some x.1) (lookup test xs))
      by true true g h l ih = ap (λ (c : Bool). after (cond c (Some w) (lookup test rest))) g ∙ h g refl ∙ sym (ap (λ (c : Bool). before (cond c (Some x.1) (lookup test xs))) g)
      by true false g h l ih = ap (λ (c : Bool). after (cond c (Some w) (lookup test rest))) g ∙ ih ∙ sym (ap (λ (c : Bool). before (cond c (Some x.1) (lookup test xs))) g)
      by false true g h l ih = ih ∙ ap before (none_after x.0 xs g up.0) ∙ sym none ∙ l g refl ∙ sym (ap (λ (c : Bool). before (cond c (Some x.1) (lookup test xs))) g)
      by false false g h l ih = ih ∙ sym (ap (λ (c : Bool). before (cond c (Some x.1) (lookup test xs))) g)

-- a key isn't equal to one above an equal key
pub key_apart : {K : Type 0} (R : K → K → Ordering) → IsTotalOrder R → (q x y : K) → is_eq (R q x) ≡ true → R x y ≡ Less → is_eq (R q y) ≡ false
key_apart R total q x y e less = ap is_eq (total.congr q x y (is_equal (R q x) e) ∙ less)
