-- What a call takes off the front of some bytes.
use Rattle.std.specs.Prelude.{◌≡◌, ℕ, List, ◌++◌, Result, Ok, Err}
use Rattle.store_form.specs.declared.fault.FormFault.{FormFault}
use Rattle.store_form.specs.declared.fault.FormFault.TheVariants.{Memory, NoForm}

abbrev pub IsMemory : FormFault → Type 0
IsMemory Memory = Unit {0}
IsMemory NoForm = ⊥

-- the value that is given is one of the set, and its bytes stood at the front
abbrev pub Gives : {X : Type 0} → (X → Type 0) → (X → List ℕ) → List ℕ → Result X FormFault → List ℕ → Type 0
Gives Is bytes old (Ok x) new = Is x × (old ≡ bytes x ++ new)
Gives Is bytes old (Err e) new = Unit {0}

-- it gives that value and leaves that, unless memory ran out
abbrev pub Found : {X : Type 0} → X → List ℕ → Result X FormFault → List ℕ → Type 0
Found x left (Ok y) new = (y ≡ x) × (new ≡ left)
Found x left (Err e) new = IsMemory e

-- where the bytes of a value of the set stand at the front, that value is given, unless memory ran out
abbrev pub Finds : {X : Type 0} → (X → Type 0) → (X → List ℕ) → List ℕ → Result X FormFault → List ℕ → Type 0
Finds {X} Is bytes old result new = (x : X) (left : List ℕ) → Is x → old ≡ bytes x ++ left → Found x left result new
