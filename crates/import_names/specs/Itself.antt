-- Names that stand for no other than themselves.
use Rattle.std.specs.Prelude.{◌≡◌, ◌⊎◌, ℕ, List, [], ◌∷◌, All}
use Rattle.import_names.specs.declared.claim.Claim.{Claim}

-- the name stands for no other by these parts: there are none, or it is the only one
abbrev pub IsItself : List ℕ → List (List ℕ) → Type 0
IsItself name parts = (parts ≡ []) ⊎ (parts ≡ name ∷ [])

-- so does each name of which something is said, by that
abbrev pub AllThemselves : List Claim → Type 0
AllThemselves claims = All (λ c. IsItself c.name c.parts) claims
