-- Lists some item of which is such.
use Rattle.std.proofs.Common.{◌≡◌, inl, inr, ◌↔◌, List, [], ◌∷◌, refl, sym, subst}
use Rattle.node_match.specs.Sets.{Among}

module _ {X : Type 0} (P : X → Type 0) where
  abbrev pub Some : List X → Type 0
  Some xs = (x : X) × Among xs x × P x

  -- where some item is such, one of those that are left is
  abbrev pub NoneBefore : List X → List X → Type 0
  NoneBefore xs left = Some xs ↔ Some left

  pub next_none : (xs left rest : List X) (x : X) → NoneBefore xs left → left ≡ x ∷ rest → (P x → ⊥) → NoneBefore xs rest
  next_none xs left rest x same e nay = (
    λ h.
        let k = same.0 h in
        let Q : List X → Type 0 = λ ys. Among ys k.0 in
        elim (subst Q e k.1) [ inl f ↦ absurd (nay (subst P (sym f) k.2)) | inr a ↦ (k.0, a, k.2) ],
    λ k. let Q : List X → Type 0 = λ ys. Among ys k.0 in same.1 (k.0, subst Q (sym e) (inr k.1), k.2),
  )

  pub this_one : (xs left rest : List X) (x : X) → NoneBefore xs left → left ≡ x ∷ rest → P x → Some xs
  this_one xs left rest x same e is = let Q : List X → Type 0 = λ ys. Among ys x in same.1 (x, subst Q (sym e) (inl refl), is)

  pub none_left : (xs left : List X) → NoneBefore xs left → left ≡ [] → Some xs → ⊥
  none_left xs left same e h = let k = same.0 h in let Q : List X → Type 0 = λ ys. Among ys k.0 in subst Q e k.1
