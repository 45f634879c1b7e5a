-- A list in order has each item once.
use Rattle.std.proofs.Common.{◌≡◌, inl, inr, List, [], ◌∷◌, sym, ◌∙◌, subst}
use Rattle.std.specs.Cmp.{IsTotalOrder}
use Rattle.std.specs.declared.cmp.Ordering.{Ordering}
use Rattle.std.specs.declared.cmp.Ordering.TheVariants.{Less, Equal}
use Rattle.std.proofs.lemmas.Cmp.{tied_itself}
use Rattle.node_match.specs.Sets.{Among}
use Rattle.tree_match.specs.Ascending.{IsAscending}
use Rattle.sorted_sets.specs.Sizes.{IsDistinct}

module _ {X : Type 0} (R : X → X → Ordering) (o : IsTotalOrder R) where
  -- the first item is below all others
  pub below_all : (x : X) (xs : List X) (y : X) → IsAscending R (x ∷ xs) → Among xs y → R x y ≡ Less
  below_all x [] y up h = absurd h
  below_all x (z ∷ zs) y up (inl e) = let P : X → Type 0 = λ w. R x w ≡ Less in subst P e up.0
  below_all x (z ∷ zs) y up (inr h) = o.trans x z y up.0 (below_all z zs y up.1 h)

  pub after_first : (x : X) (xs : List X) → IsAscending R (x ∷ xs) → IsAscending R xs
  after_first x [] up = tt
  after_first x (y ∷ ys) up = up.1

  pub distinct_up : (xs : List X) → IsAscending R xs → IsDistinct xs
  distinct_up [] up = tt
  distinct_up (x ∷ xs) up = ((λ h. (let e : Less ≡ Equal = sym (below_all x xs x up h) ∙ tied_itself o x in cc)), distinct_up xs (after_first x xs up))
