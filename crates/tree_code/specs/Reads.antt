-- What a call reads off the front of some bytes.
use Rattle.std.specs.Prelude.{◌≡◌, ◌<◌, List, ℕ, ◌++◌, length, Result, IfOk, OnOk}
use Rattle.node_tree.specs.declared.memory.Memory.{Memory}

-- where the bytes of a value stand at the front, that value is given, and what is behind it is left
abbrev pub Reads : {X : Type 0} → (X → List ℕ) → List ℕ → Result X Memory → List ℕ → Type 0
Reads {X} code old result new = (x : X) (left : List ℕ) → old ≡ code x ++ left → IfOk result (λ y. (y ≡ x) × (new ≡ left))

-- at least a byte is read
abbrev pub Shortens : {X : Type 0} → List ℕ → Result X Memory → List ℕ → Type 0
Shortens old result new = OnOk result (length new < length old)
