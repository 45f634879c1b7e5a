-- What a glob matches.
use Rattle.std.specs.Prelude.{◌≡◌, ℕ, List, [], ◌∷◌, length, ◌⊎◌}
use Rattle.std.specs.Str.{chars}
use Rattle.path_glob.specs.Fitting.{Fits}

-- `*` stands for any run of characters, `?` for one character, any other character for itself
abbrev pub StandsForChars : ℕ → List ℕ → Type 0
StandsForChars sign run = (sign ≡ 42) ⊎ (((sign ≡ 63) × (length run ≡ 1)) ⊎ (run ≡ sign ∷ []))

-- the list is at its end
abbrev pub AtEnd : {X : Type 0} → List X → Type 0
AtEnd xs = xs ≡ []

-- a segment of a glob fits a whole segment of a path
abbrev pub FitsSegment : List ℕ → List ℕ → Type 0
FitsSegment glob segment = Fits StandsForChars AtEnd (chars glob) (chars segment)

-- `**` stands for any run of segments, any other segment of a glob for one segment that it fits
abbrev pub StandsForSegments : List ℕ → List (List ℕ) → Type 0
StandsForSegments glob run = (glob ≡ 42 ∷ 42 ∷ []) ⊎ ((segment : List ℕ) × (run ≡ segment ∷ []) × FitsSegment glob segment)

-- anything may follow
abbrev pub Anything : {X : Type 0} → List X → Type 0
Anything xs = Unit {0}

-- the segments of a glob fit the segments of a path, or a leading run of them
abbrev pub FitsFront : List (List ℕ) → List (List ℕ) → Type 0
FitsFront globs segments = Fits StandsForSegments Anything globs segments
