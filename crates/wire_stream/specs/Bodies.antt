-- The bodies of commands.
use Rattle.std.specs.Prelude.{◌≡◌, ℕ, List, [], ◌∷◌, ◌++◌, length, take, Option}
use Rattle.wire_stream.specs.Streams.{Uses}

-- nothing is left
abbrev pub IsEmpty : List ℕ → Type 0
IsEmpty stream = stream ≡ []

-- no end of a body comes
abbrev pub IsNoEnd : List ℕ → Type 0
IsNoEnd stream = (rest : List ℕ) → stream ≡ 10 ∷ rest → ⊥

-- so many bytes were used, of which the first ones are kept
pub record IsFront (left_old left_new : Option (List ℕ)) (hand_old hand_new : List ℕ) (size most : ℕ) (kept : List ℕ) : Type 0 where
  pub body : List ℕ
  pub whole : length body ≡ size
  pub is : kept ≡ take most body
  pub uses : Uses left_old left_new hand_old hand_new body

-- fewer bytes are left
abbrev pub IsNoFront : ℕ → List ℕ → Type 0
IsNoFront size stream = (body rest : List ℕ) → length body ≡ size → stream ≡ body ++ rest → ⊥

-- a body of so many bytes and its end were used, and the body's first bytes are kept
pub record IsWhole (left_old left_new : Option (List ℕ)) (hand_old hand_new : List ℕ) (size most : ℕ) (kept : List ℕ) : Type 0 where
  pub body : List ℕ
  pub whole : length body ≡ size
  pub is : kept ≡ take most body
  pub uses : Uses left_old left_new hand_old hand_new (body ++ 10 ∷ [])

-- no body of so many bytes with its end is left
abbrev pub IsNoWhole : ℕ → List ℕ → Type 0
IsNoWhole size stream = (body rest : List ℕ) → length body ≡ size → stream ≡ (body ++ 10 ∷ []) ++ rest → ⊥
