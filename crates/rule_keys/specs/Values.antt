-- What values are: texts, names, and the entries of maps.
use Rattle.std.specs.Prelude.{ℕ, List, [], ◌∷◌, if◌then◌else◌, Option, Some, None, Result, Ok, Err}
use Rattle.std.specs.Str.{bytes_eq}
use Rattle.yaml_cells.specs.declared.value.YValue.{YValue, out-YValue}
use Rattle.yaml_cells.specs.declared.value.YValue.TheOpen as layers
use Rattle.rule_keys.specs.declared.fault.RuleFaultKind.TheVariants.{MissingKey, WrongShape}
use Rattle.rule_keys.specs.declared.stop.Misfit.{Misfit}
use Rattle.rule_keys.specs.Misfits.{here, at}
use Rattle.rule_keys.specs.Names.{is_name}

-- an entry of a map
abbrev pub Entry : Type 0
Entry = List ℕ × YValue

-- the value of a key
abbrev pub look : List ℕ → List Entry → Option YValue
look key [] = None
look key (e ∷ es) = if bytes_eq e.0 key then Some e.1 else look key es

abbrev layer_text : layers.YValue-F YValue → Option (List ℕ)
layer_text (layers.Word text) = Some text
layer_text (layers.Quoted text) = Some text
layer_text _ = None

-- the text that a value is, if it is one
abbrev pub text_of : YValue → Option (List ℕ)
text_of v = layer_text (out-YValue v)

abbrev layer_map : layers.YValue-F YValue → Option (List Entry)
layer_map (layers.Map es) = Some es
layer_map _ = None

-- the entries of the map that a value is, if it is one
abbrev pub entries_of : YValue → Option (List Entry)
entries_of v = layer_map (out-YValue v)

abbrev layer_items : layers.YValue-F YValue → Option (List YValue)
layer_items (layers.Seq vs) = Some vs
layer_items _ = None

-- the items of the list that a value is, if it is one
abbrev pub list_of : YValue → Option (List YValue)
list_of v = layer_items (out-YValue v)

-- what is there, or else a misfit
abbrev pub or_misfit : {X : Type 0} → Misfit → Option X → Result X Misfit
or_misfit m None = Err m
or_misfit m (Some x) = Ok x

-- what the first gives is handed on
abbrev pub and_then : {X Y : Type 0} → Result X Misfit → (X → Result Y Misfit) → Result Y Misfit
and_then (Err m) f = Err m
and_then (Ok x) f = f x

-- the value of a key that must be there
abbrev pub required : List ℕ → List Entry → Result YValue Misfit
required key es = or_misfit (at key MissingKey) (look key es)

-- the text that a key must hold
abbrev pub required_text : List ℕ → List Entry → Result (List ℕ) Misfit
required_text key es = and_then (required key es) (λ v. or_misfit (at key WrongShape) (text_of v))

abbrev pub as_name : Misfit → List ℕ → Result (List ℕ) Misfit
as_name m text = if is_name text then Ok text else Err m

-- the name that a key must hold
abbrev pub required_name : List ℕ → List Entry → Result (List ℕ) Misfit
required_name key es = and_then (required_text key es) (as_name (at key WrongShape))

-- the text that a value must be
abbrev pub whole_text : YValue → Result (List ℕ) Misfit
whole_text v = or_misfit (here WrongShape) (text_of v)

-- the name that a value must be
abbrev pub whole_name : YValue → Result (List ℕ) Misfit
whole_name v = and_then (whole_text v) (as_name (here WrongShape))

abbrev pub some_items : List YValue → Result (List YValue) Misfit
some_items [] = Err (here WrongShape)
some_items (v ∷ vs) = Ok (v ∷ vs)

-- the items of the list that a value must be, at least one
abbrev pub items_of : YValue → Result (List YValue) Misfit
items_of v = and_then (or_misfit (here WrongShape) (list_of v)) some_items
