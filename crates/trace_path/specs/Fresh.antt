-- Facts that are new at a point.
use Rattle.std.specs.Prelude.{◌≡◌, ◌⊎◌, ◌↔◌, ◌+◌, ◌*◌, ◌-◌, ◌<◌, ◌≤◌, ℕ, List, [], ◌∷◌, ◌++◌, length}
use Rattle.graph_form.specs.Sets.{Among}
use Rattle.flow_reach.specs.Bits.{bit_of, Has}
use Rattle.flow_reach.specs.Spread.{At}
use Rattle.flow_reach.specs.Worklist.{total}

abbrev pub absent : List ℕ → ℕ → ℕ
absent set k = 1 - bit_of set k

-- how many numbers are not in the set
unfoldable pub missing : List ℕ → ℕ
missing set = total (absent set) (64 * length set)

-- the number is put into the set
pub record Puts (at : ℕ) (old new : List ℕ) : Type 0 where
  pub room : length new ≡ length old
  pub seen : (k : ℕ) → Has new k ↔ (Has old k ⊎ (k ≡ at))
  pub less : missing new < missing old

-- the fact was there, or it is there now and is put to those that were found
abbrev pub Notes : ℕ → ℕ → List ℕ → List ℕ → List ℕ → List ℕ → Type 0
Notes base fact old new found later =
    (Has old (base + fact) × (new ≡ old) × (later ≡ found)) ⊎ ((Has old (base + fact) → ⊥) × Puts (base + fact) old new × (later ≡ found ++ fact ∷ []))

-- these facts are there now, and those found are those of them that were not there
pub record Finds (base : ℕ) (facts old new found : List ℕ) : Type 0 where
  pub room : length new ≡ length old
  pub seen : (k : ℕ) → Has new k ↔ (Has old k ⊎ At base facts k)
  pub some : (f : ℕ) → Among found f → Among facts f × (Has old (base + f) → ⊥)
  pub all : (f : ℕ) → Among facts f → Has old (base + f) ⊎ Among found f
  pub less : length found + missing new ≤ missing old

-- those found stand behind the others
pub record Gathers (base : ℕ) (facts old new before after : List ℕ) : Type 0 where
  pub found : List ℕ
  pub same : after ≡ before ++ found
  pub finds : Finds base facts old new found
