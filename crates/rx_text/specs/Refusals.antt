-- Lists of refused texts.
use Rattle.std.specs.Prelude.{◌≡◌, ◌<◌, ℕ, List, [], ◌∷◌, ◌++◌, Result, Ok, Err, count_by, bytes_eq}
use Rattle.rx_text.specs.declared.patterns.BuildFault.{BuildFault}
use Rattle.rx_text.specs.declared.patterns.BuildFault.TheVariants.{Memory, Refused}

-- after Refused the list has just that text more, and after want of memory it is as before
abbrev pub ListsFault : BuildFault → List ℕ → List (List ℕ) → List (List ℕ) → Type 0
ListsFault Memory text old new = new ≡ old
ListsFault Refused text old new = new ≡ old ++ text ∷ []

-- the same of an answer; where something was built the list is as before
abbrev pub Lists : {X : Type 0} → Result X BuildFault → List ℕ → List (List ℕ) → List (List ℕ) → Type 0
Lists (Ok x) text old new = new ≡ old
Lists (Err e) text old new = ListsFault e text old new

-- how many times the text stands in the list
abbrev pub times_in : List (List ℕ) → List ℕ → ℕ
times_in texts text = count_by (λ t. bytes_eq t text) texts

-- what a fake holds: the texts to refuse, how many times each, and the texts that were refused and that were asked for so far
pub record FakeState : Type 0 where
  pub listed : List (List ℕ)
  pub times : ℕ
  pub refused : List (List ℕ)
  pub asked : List (List ℕ)

-- the text is to be refused, and was refused fewer times than it is to be
abbrev pub IsDue : FakeState → List ℕ → Type 0
IsDue f text = (0 < times_in f.listed text) × (times_in f.refused text < f.times)
