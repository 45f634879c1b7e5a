-- What stands between slashes.
use Rattle.std.specs.Prelude.{ℕ, List, [], ◌∷◌, ◌==◌, if◌then◌else◌, Option, Some, None}
use Rattle.std.specs.List.{slice_split}
use Rattle.std.specs.Borrow.{Bor}

-- the segments of a text: what stands between its slashes, so a text without a slash has one
abbrev pub segments : List ℕ → List (List ℕ)
segments text = slice_split (λ byte. byte == 47) text

-- a text without a slash at its start
abbrev pub without_first : List ℕ → List ℕ
without_first [] = []
without_first (b ∷ bs) = if b == 47 then bs else b ∷ bs

-- a text without a slash at its end
abbrev pub without_last : List ℕ → List ℕ
without_last [] = []
without_last (b ∷ []) = if b == 47 then [] else b ∷ []
without_last (b ∷ c ∷ bs) = b ∷ without_last (c ∷ bs)

-- the segments of what is left of a text, none where nothing is left
abbrev pub segments_left : Option (Bor (List ℕ)) → List (List ℕ)
segments_left None = []
segments_left (Some text) = segments text.now
