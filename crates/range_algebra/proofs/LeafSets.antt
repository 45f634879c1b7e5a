-- The set of a pattern.
use Rattle.std.proofs.Common.{◌≡◌, ℕ, zero, suc, ◌+◌, ◌<◌, List, [], ◌∷◌, ◌++◌, length, take, refl, sym, ap, ◌∙◌, subst, add-one, arith}
use Rattle.std.specs.Prelude.{Option, None, Some, slice_get}
use Rattle.tree_match.specs.declared.leaf.Leaf.{Leaf}
use Rattle.tree_match.specs.Members.{Member}
use Rattle.tree_match.specs.Leaf.{IsWhole}
use Rattle.range_algebra.specs.Trees.{leaf}
use Rattle.range_algebra.specs.Meets.{InLeaf}
use Rattle.range_algebra.specs.Parts.{IsSetOf}
use Rattle.range_algebra.specs.Crowds.{LeafSearch, Over}

module _ {X : Type 0} where
  some_is : (x y : X) → Some x ≡ Some y → x ≡ y
  some_is x y e = let f : Option X → X = λ o. from o in ap f e
    where
      from : Option X → X
      from None = x
      from (Some z) = z

  -- the items before a place, and the one there
  taken : (xs : List X) (i : ℕ) (x : X) → slice_get xs i ≡ Some x → take i xs ++ x ∷ [] ≡ take (suc i) xs
  taken [] i x e = absurd cc
  taken (y ∷ ys) zero x e = ap (λ (z : X). z ∷ []) (sym (some_is y x e))
  taken (y ∷ ys) (suc i) x e = ap (λ (zs : List X). y ∷ zs) (taken ys i x e)

  pub take_more : (xs old new : List X) (i : ℕ) (x : X) → old ≡ take i xs → slice_get xs i ≡ Some x → new ≡ old ++ x ∷ [] → new ≡ take (i + 1) xs
  take_more xs old new i x e there is = is ∙ ap (λ (ys : List X). ys ++ x ∷ []) e ∙ taken xs i x there ∙ ap (λ j. take j xs) (sym (add-one i))

  pub take_past : (xs : List X) (i n : ℕ) → slice_get xs i ≡ None → i < n → n ≡ length xs → ⊥
  take_past [] i n e lt is = omega (arith, lt, is)
  take_past (x ∷ xs) zero n e lt is = cc
  take_past (x ∷ xs) (suc i) n e lt is = take_past xs i (length xs) e (omega (arith, lt, is)) refl

module _ (leaves : List Leaf) (texts : List (List ℕ)) (bytes : List ℕ) (k : ℕ) where
  pub leaf_set : (o : Option Leaf) (members : List Member) → slice_get leaves k ≡ o → IsWhole (InLeaf o) members → IsSetOf leaves texts bytes (leaf k) members
  leaf_set o members e h = let P : Option Leaf → Type 0 = λ l. IsWhole (InLeaf l) members in subst P (sym e) h

  pub leaf_over : (o : Option Leaf) (p : Option (List ℕ)) → slice_get leaves k ≡ o → LeafSearch o p → Over leaves texts bytes (leaf k) p
  leaf_over o p e h = let P : Option Leaf → Type 0 = λ l. LeafSearch l p in subst P (sym e) h
