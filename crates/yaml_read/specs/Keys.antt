-- Keys that stand once.
use Rattle.std.specs.Prelude.{ℕ, List, [], ◌∷◌, if◌then◌else◌, Bool, true, false, bytes_eq}
use Rattle.yaml_cells.specs.declared.value.YValue.{YValue}

-- the key is that of an entry
abbrev pub is_among : List ℕ → List (List ℕ × YValue) → Bool
is_among k [] = false
is_among k (e ∷ es) = if bytes_eq e.0 k then true else is_among k es

-- each key stands once
abbrev pub is_distinct : List (List ℕ × YValue) → Bool
is_distinct [] = true
is_distinct (e ∷ es) = if is_among e.0 es then false else is_distinct es
