-- What a call adds at the end of some bytes.
use Rattle.std.specs.Prelude.{◌≡◌, ℕ, List, ◌++◌, Result, Ok, Err}
use Rattle.std.specs.List.{All, flat_map}
use Rattle.store_form.specs.declared.fault.FormFault.{FormFault}
use Rattle.store_form.specs.declared.fault.FormFault.TheVariants.{Memory, NoForm}

-- the bytes of a value of the set are added; NoForm says that it is none of the set
abbrev pub Adds : {X : Type 0} → (X → Type 0) → (X → List ℕ) → X → List ℕ → Result Unit FormFault → List ℕ → Type 0
Adds Is bytes x old (Ok _) new = Is x × (new ≡ old ++ bytes x)
Adds Is bytes x old (Err Memory) new = Unit {0}
Adds Is bytes x old (Err NoForm) new = Is x → ⊥

-- the same of some values, one after the other
abbrev pub AddsAll : {X : Type 0} → (X → Type 0) → (X → List ℕ) → List X → List ℕ → Result Unit FormFault → List ℕ → Type 0
AddsAll Is bytes xs old result new = Adds (All Is) (flat_map bytes) xs old result new
