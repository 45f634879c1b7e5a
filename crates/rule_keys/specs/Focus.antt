-- The names on which a rule focuses.
use Rattle.std.specs.Prelude.{ℕ, ◌+◌, List, [], ◌∷◌, Option, Some, None, Result, Ok}
use Rattle.std.specs.Fmt.{decimal}
use Rattle.yaml_cells.specs.declared.value.YValue.{YValue}
use Rattle.rule_keys.specs.declared.stop.Misfit.{Misfit}
use Rattle.rule_keys.specs.Misfits.{under}
use Rattle.rule_keys.specs.Values.{whole_name, list_of, some_items, and_then}

-- the names that items must be
abbrev pub names_from : ℕ → List YValue → Result (List (List ℕ)) Misfit
names_from k [] = Ok []
names_from k (v ∷ vs) = and_then (under (decimal k) (whole_name v)) (λ name. and_then (names_from (k + 1) vs) (λ names. Ok (name ∷ names)))

abbrev pub focus_by : YValue → Option (List YValue) → Result (List (List ℕ)) Misfit
focus_by v (Some vs) = and_then (some_items vs) (names_from 0)
focus_by v None = and_then (whole_name v) (λ name. Ok (name ∷ []))

-- the value of `focus-metavariable`: a name, or a list of some
abbrev pub focus : YValue → Result (List (List ℕ)) Misfit
focus v = focus_by v (list_of v)
