-- What was added to an empty list.
use Rattle.std.proofs.Common.{◌≡◌, inl, inr, List, [], ◌∷◌, refl, subst}
use Rattle.node_match.specs.Sets.{Among, Adds}

module _ {X : Type 0} (P : X → Type 0) (old new : List X) (none : old ≡ []) (adds : Adds old new P) where
  pub none_found : new ≡ [] → (x : X) → P x → ⊥
  none_found empty x p = let Q : List X → Type 0 = λ xs. Among xs x in subst Q empty ((adds x).1 (inr p))

  pub some_found : (new ≡ [] → ⊥) → (x : X) × P x
  some_found some = at new some (λ x a. (let Q : List X → Type 0 = λ xs. Among xs x in elim ((adds x).0 a) [ inl b ↦ absurd (subst Q none b) | inr p ↦ p ]))
    where
      at : (xs : List X) → (xs ≡ [] → ⊥) → ((x : X) → Among xs x → P x) → (x : X) × P x
      at [] some each = absurd (some refl)
      at (x ∷ xs) some each = (x, each x (inl refl))
