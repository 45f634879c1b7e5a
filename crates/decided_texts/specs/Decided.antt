-- Which texts of regular expressions were refused, and which were built.
use Rattle.std.specs.Prelude.{◌≡◌, ◌⊎◌, ◌||◌, ℕ, Bool, true, false, List, [], ◌∷◌, ◌++◌, Option, None, Some, if◌then◌else◌}
use Rattle.std.specs.List.{list_any}
use Rattle.std.specs.Str.{bytes_eq}
use Rattle.node_match.specs.Sets.{Among}

-- the texts that builders refused and those that they built, in the order in which that was decided
pub record Decisions : Type 0 where
  pub refused : List (List ℕ)
  pub built : List (List ℕ)

-- the text is one of the refused ones
abbrev pub is_refused : List (List ℕ) → List ℕ → Bool
is_refused refused text = list_any (λ other. bytes_eq other text) refused

-- the text was refused or built
abbrev pub is_decided : Decisions → List ℕ → Bool
is_decided d text = is_refused d.refused text || is_refused d.built text

-- each of these texts is decided
abbrev pub AreDecided : Decisions → List (List ℕ) → Type 0
AreDecided d texts = (text : List ℕ) → Among texts text → is_decided d text ≡ true

-- none of them is
abbrev pub AreUndecided : Decisions → List (List ℕ) → Type 0
AreUndecided d texts = (text : List ℕ) → Among texts text → is_decided d text ≡ false

-- what a text came to, where these were refused
abbrev pub came_to : List (List ℕ) → List ℕ → Option (List ℕ)
came_to refused text = if is_refused refused text then None else Some text

-- the builder's list is as before, or it gained the text, which wasn't decided
abbrev pub AsksFor : Decisions → List ℕ → List (List ℕ) → List (List ℕ) → Type 0
AsksFor d text old new = (new ≡ old) ⊎ ((new ≡ old ++ text ∷ []) × (is_decided d text ≡ false))

-- what was built where a text was to be decided and the builder's list gained this: a text that wasn't decided, if it gained nothing
abbrev pub built_now : Decisions → List ℕ → List (List ℕ) → List (List ℕ)
built_now d text [] = if is_decided d text then [] else text ∷ []
built_now d text (refusal ∷ more) = []
