-- Texts with the places where they stand.
use Rattle.std.specs.Prelude.{◌≡◌, ℕ, suc, List, [], ◌∷◌, if◌then◌else◌, Option, Some, None}
use Rattle.std.specs.Borrow.{Bor}
use Rattle.std.specs.BTreeMap.{BTreeMap, get_by}
use Rattle.std.specs.Cmp.Lexicographic.{slice_cmp}
use Rattle.std.specs.Option.{option_map}
use Rattle.std.specs.Ordering.{nat_cmp}
use Rattle.std.specs.Str.{bytes_eq}

-- the place of a text among some, which is behind them all where it isn't there
abbrev pub place_of : List ℕ → List (List ℕ) → ℕ
place_of text [] = 0
place_of text (t ∷ ts) = if bytes_eq t text then 0 else suc (place_of text ts)

-- some texts, and one more where it isn't among them
abbrev pub with_text : List ℕ → List (List ℕ) → List (List ℕ)
with_text text [] = text ∷ []
with_text text (t ∷ ts) = if bytes_eq t text then t ∷ ts else t ∷ with_text text ts

-- the place of a text among some, if it is there
abbrev pub place_if_there : List ℕ → List (List ℕ) → Option ℕ
place_if_there text [] = None
place_if_there text (t ∷ ts) = if bytes_eq t text then Some 0 else option_map suc (place_if_there text ts)

-- the place that a map holds for a text
abbrev pub place_in : BTreeMap (Bor (List ℕ)) ℕ → List ℕ → Option ℕ
place_in places text = get_by (λ key. slice_cmp nat_cmp text key.now) places

-- the map holds the places of the texts and no others
abbrev pub TellsPlaces : BTreeMap (Bor (List ℕ)) ℕ → List (List ℕ) → Type 0
TellsPlaces places texts = (text : List ℕ) → place_in places text ≡ place_if_there text texts
