-- The keys of formulas, and which maps take them.
use Rattle.std.specs.Prelude.{◌≡◌, ℕ, Bool, true, false, ◌||◌, List, [], ◌∷◌, if◌then◌else◌, codes, Option, Some, None, Result, Ok, Err}
use Rattle.std.specs.Option.{option_map, option_and_then, is_some}
use Rattle.std.specs.Borrow.{Bor}
use Rattle.std.specs.Str.{bytes_eq}
use Rattle.lexing.specs.WordList.{is_among}
use Rattle.rule_keys.specs.declared.fault.RuleFaultKind.TheVariants.{MissingKey, UnknownKey, WrongShape, OutsideProfile}
use Rattle.rule_keys.specs.declared.key.FormulaKey.{FormulaKey}
use Rattle.rule_keys.specs.declared.key.FormulaKey.TheVariants as formulas
use Rattle.rule_keys.specs.declared.key.ChildKey.{ChildKey}
use Rattle.rule_keys.specs.declared.key.ChildKey.TheVariants as children
use Rattle.rule_keys.specs.declared.key.Role.{Role}
use Rattle.rule_keys.specs.declared.key.Role.TheVariants as roles
use Rattle.yaml_cells.specs.declared.value.YValue.{YValue}
use Rattle.rule_keys.specs.declared.stop.Misfit.{Misfit}
use Rattle.rule_keys.specs.Misfits.{here, at}
use Rattle.rule_keys.specs.Values.{Entry, or_misfit, and_then, entries_of}

-- the formula keys
abbrev pub formula_key : List ℕ → Option FormulaKey
formula_key key =
    if bytes_eq key (codes "pattern") then Some formulas.Pattern
    else (if bytes_eq key (codes "patterns") then Some formulas.Patterns
    else (if bytes_eq key (codes "pattern-either") then Some formulas.Either
    else (if bytes_eq key (codes "pattern-regex") then Some formulas.Regex else None)))

-- the other operands of `patterns`, and what it takes away
abbrev pub operand_key : List ℕ → Option ChildKey
operand_key key =
    if bytes_eq key (codes "pattern-inside") then Some children.Inside
    else (if bytes_eq key (codes "pattern-not") then Some children.Not
    else (if bytes_eq key (codes "pattern-not-inside") then Some children.NotInside
    else (if bytes_eq key (codes "pattern-not-regex") then Some children.NotRegex else None)))

-- the conditions of `patterns`, and its focus
abbrev pub condition_key : List ℕ → Option ChildKey
condition_key key =
    if bytes_eq key (codes "metavariable-regex") then Some children.MetaRegex
    else (if bytes_eq key (codes "metavariable-comparison") then Some children.MetaCompare
    else (if bytes_eq key (codes "metavariable-pattern") then Some children.MetaPattern
    else (if bytes_eq key (codes "focus-metavariable") then Some children.Focus else None)))

-- the first that is there
abbrev pub or_else : {X : Type 0} → Option X → Option X → Option X
or_else None y = y
or_else (Some x) y = Some x

abbrev pub as_child : FormulaKey → ChildKey
as_child k = children.Formula k

-- all keys of a child of `patterns`
abbrev pub child_key : List ℕ → Option ChildKey
child_key key = or_else (option_map as_child (formula_key key)) (or_else (operand_key key) (condition_key key))

abbrev pub is_formula : ChildKey → Bool
is_formula (children.Formula k) = true
is_formula _ = false

abbrev pub is_alternative : ChildKey → Bool
is_alternative (children.Formula k) = true
is_alternative children.Inside = true
is_alternative _ = false

-- a map of the role has just one key among which this one is
abbrev pub counts : Role → ChildKey → Bool
counts roles.Formula k = is_formula k
counts roles.Alternative k = is_alternative k
counts roles.Child k = true
counts roles.Propagator k = is_formula k
counts roles.MetaRegex k = false
counts roles.MetaCompare k = false
counts roles.MetaPattern k = is_formula k

abbrev pub if_counts : Role → ChildKey → Option ChildKey
if_counts role k = if counts role k then Some k else None

-- the key, if a map of the role has just one of its kind
abbrev pub counted : Role → List ℕ → Option ChildKey
counted role key = option_and_then (if_counts role) (child_key key)

-- the keys that a map of the role may have besides
abbrev pub companions : Role → List (List ℕ)
companions roles.Propagator = codes "from" ∷ codes "to" ∷ []
companions roles.MetaRegex = codes "metavariable" ∷ codes "regex" ∷ []
companions roles.MetaCompare = codes "metavariable" ∷ codes "comparison" ∷ []
companions roles.MetaPattern = codes "metavariable" ∷ []
companions _ = []

-- a map of the role takes the key
abbrev pub takes : Role → List ℕ → Bool
takes role key = is_some (counted role key) || is_among (companions role) key

-- the keys that Semgrep has and that aren't read
abbrev pub outside : List (List ℕ)
outside = codes "base" ∷ codes "strip" ∷ codes "language" ∷ codes "label" ∷ codes "requires" ∷ codes "exact" ∷ codes "by-side-effect" ∷ codes "control" ∷ codes "not_conflicting" ∷ []

-- what a key is that a map doesn't take
abbrev pub stray : List ℕ → Misfit
stray key = if is_among outside key then at key OutsideProfile else at key UnknownKey

-- a map of the role takes each key; else the first one that it doesn't take is wrong
abbrev pub check_keys : Role → List Entry → Result (Unit {0}) Misfit
check_keys role [] = Ok tt
check_keys role (e ∷ es) = if takes role e.0 then check_keys role es else Err (stray e.0)

-- the entries of the map of a role that a value must be
abbrev pub map_of : Role → YValue → Result (List Entry) Misfit
map_of role v = and_then (or_misfit (here WrongShape) (entries_of v)) (λ es. and_then (check_keys role es) (λ _. Ok es))

-- an entry whose key counts
abbrev pub Counted : Type 0
Counted = ChildKey × Entry

abbrev pub counted_first : Entry → List (Counted) → Option ChildKey → List Counted
counted_first e more None = more
counted_first e more (Some k) = (k, e) ∷ more

-- all entries whose keys count
abbrev pub all_counted : Role → List Entry → List Counted
all_counted role [] = []
all_counted role (e ∷ es) = counted_first e (all_counted role es) (counted role e.0)

abbrev pub just_one : List Counted → Result Counted Misfit
just_one [] = Err (here MissingKey)
just_one (c ∷ []) = Ok c
just_one _ = Err (here WrongShape)

-- the one entry whose key counts: none is a missing key of the map, a second one makes the map wrong
abbrev pub one_of : Role → List Entry → Result Counted Misfit
one_of role es = just_one (all_counted role es)

-- the first entry whose key counts, and those behind it, so that all that count are the first and those behind
abbrev pub IsFirst : Role → List Entry → Option (ChildKey × Bor Entry × Bor (List Entry)) → Type 0
IsFirst role es None = all_counted role es ≡ []
IsFirst role es (Some f) = all_counted role es ≡ (f.0, f.1.now) ∷ all_counted role f.2.now
