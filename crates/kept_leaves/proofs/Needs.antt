-- The parts that a pattern needs, one after the other.
use Rattle.std.proofs.Common.{◌≡◌, ◌∙◌, ℕ, ◌+◌, ◌<◌, List, [], ◌∷◌, ◌++◌, ◌⊎◌, inl, inr, ◌↔◌, length, take, map, get_or, sym, ap, subst, Bool, true, false, cond}
use Rattle.std.specs.Prelude.{Option, None, Some, option_map}
use Rattle.std.proofs.lemmas.List.{map-append, take_more, get_or_default}
use Rattle.std.proofs.lemmas.List.Elements.{filter-append}
use Rattle.node_tree.specs.declared.view.Pattern.{Pattern}
use Rattle.file_parts.specs.Parts.{SeenPart, is_needed, needed_of}
use Rattle.kept_leaves.specs.declared.leaf.KeptLeaf.{KeptLeaf}
use Rattle.kept_leaves.specs.Pairs.{Pair, IsSamePair, IsOneOf}
use Rattle.kept_leaves.specs.Ready.{pair_of, pairs_of}
use Rattle.kept_leaves.proofs.Laws.{some_pair}
use Rattle.kept_leaves.proofs.Pairs.{alone, one_alone, one_first, one_second, one_either}

-- the parts of one part that a pattern needs: it, or none
module _ (pattern : Pattern) (p : SeenPart) where
  pub needed_here : is_needed pattern p ≡ true → needed_of pattern (p ∷ []) ≡ p ∷ []
  needed_here e = ap (λ (b : Bool). cond b (p ∷ []) []) e

  pub needed_out : is_needed pattern p ≡ false → needed_of pattern (p ∷ []) ≡ []
  needed_out e = ap (λ (b : Bool). cond b (p ∷ []) []) e

  module _ (path : List ℕ) where
    -- it is the pair that is needed
    pub pair_here : is_needed pattern p ≡ true → (x : Pair) → IsSamePair (pair_of path pattern p) x ↔ IsOneOf (pairs_of path pattern (p ∷ [])) x
    pair_here e x =
        let P : List Pair → Type 0 = λ ps. IsSamePair (pair_of path pattern p) x ↔ IsOneOf ps x in
        subst P (sym (ap (map (pair_of path pattern)) (needed_here e))) (alone (pair_of path pattern p) x, one_alone (pair_of path pattern p) x)

    -- no pair is needed
    pub pair_out : is_needed pattern p ≡ false → (x : Pair) → ⊥ ↔ IsOneOf (pairs_of path pattern (p ∷ [])) x
    pair_out e x =
        let P : List Pair → Type 0 = λ ps. ⊥ ↔ IsOneOf ps x in
        subst P (sym (ap (map (pair_of path pattern)) (needed_out e))) (λ h. absurd h, λ (y, a, same). absurd a)

-- what is read of a list is read of an equal one
pub read_again : (parts now : List SeenPart) (i : ℕ) (d : SeenPart) → now ≡ parts → i < length parts → get_or now i d ≡ get_or parts i (get_or now i d)
read_again parts now i d e lt = ap (λ (ps : List SeenPart). get_or ps i d) e ∙ get_or_default parts i d (get_or now i d) lt

-- one part more
module _ (pattern : Pattern) (parts : List SeenPart) (i : ℕ) (p : SeenPart) (lt : i < length parts) (is : p ≡ get_or parts i p) where
  pub needed_next : needed_of pattern (take (i + 1) parts) ≡ needed_of pattern (take i parts) ++ needed_of pattern (p ∷ [])
  needed_next =
      ap (needed_of pattern) (take_more parts i p lt ∙ ap (λ (q : SeenPart). take i parts ++ q ∷ []) (sym is))
      ∙ filter-append (is_needed pattern) (take i parts) (p ∷ [])

  pub pairs_next : (path : List ℕ) (x : Pair) → (IsOneOf (pairs_of path pattern (take i parts)) x ⊎ IsOneOf (pairs_of path pattern (p ∷ [])) x) ↔ IsOneOf (pairs_of path pattern (take (i + 1) parts)) x
  pairs_next path x =
      let before : List Pair = pairs_of path pattern (take i parts) in
      let here : List Pair = pairs_of path pattern (p ∷ []) in
      let P : List Pair → Type 0 = λ ps. (IsOneOf before x ⊎ IsOneOf here x) ↔ IsOneOf ps x in
      let all : before ++ here ≡ pairs_of path pattern (take (i + 1) parts) =
      sym (ap (map (pair_of path pattern)) needed_next ∙ map-append (pair_of path pattern) (needed_of pattern (take i parts)) (needed_of pattern (p ∷ []))) in
      subst P all (λ h. elim h [ inl o ↦ one_first before here x o | inr o ↦ one_second before here x o ], one_either before here x)

-- what was found is kept
pub found_leaf : (o : Option (KeptLeaf × Bool)) (l : KeptLeaf) → Some l ≡ option_map (λ k. k.0) o → (met : Bool) × (o ≡ some_pair l.leaf met)
found_leaf None l e = absurd (let f : Some l ≡ None = e in cc)
found_leaf (Some k) l e =
    let same : l ≡ k.0 = cc in
    let at : KeptLeaf → Option (KeptLeaf × Bool) = λ z. Some (z, k.1) in
    (k.1, ap at (sym same))
