-- Names that are assigned once, in a map.
use Rattle.std.specs.Prelude.{◌≡◌, ℕ, List, [], ◌∷◌, ◌++◌, filter, take, if◌then◌else◌, Option, Some, None}
use Rattle.std.specs.Borrow.{Bor}
use Rattle.std.specs.BTreeMap.{BTreeMap, get_by}
use Rattle.std.specs.Cmp.Lexicographic.{slice_cmp}
use Rattle.std.specs.List.{flat_map}
use Rattle.std.specs.Option.{option_map}
use Rattle.std.specs.Ordering.{nat_cmp}
use Rattle.std.specs.Str.{bytes_eq}
use Rattle.node_tree.specs.declared.node.Node.{Node}
use Rattle.unit_effects.specs.declared.fixed.Fixed.{Fixed}
use Rattle.unit_names.specs.declared.scope.Scope.{Scope}
use Rattle.unit_names.specs.declared.word.Word.{Word as Lent}
use Rattle.unit_effects.specs.Fixed.{Value, occurrences_of, barred}
use Rattle.unit_effects.specs.Firsts.{may_be, TellsFirsts}
use Rattle.unit_names.specs.Seen.{seen_word}
use Rattle.unit_names.specs.Words.{name_word, is_one_of, each_once}

-- what the map says of a name: nothing where it isn't assigned
abbrev pub once_in : BTreeMap (Bor (List ℕ)) (Option Lent) → List ℕ → Option Value
once_in once name = option_map (option_map seen_word) (get_by (λ key. slice_cmp nat_cmp name key.now) once)

-- the same of a list of names that are assigned
abbrev pub summary : List (List ℕ × Value) → Option Value
summary [] = None
summary (o ∷ []) = Some o.1
summary (o ∷ p ∷ os) = Some None

abbrev pub once_among : List (List ℕ × Value) → List ℕ → Option Value
once_among os name = summary (filter (λ o. bytes_eq o.0 name) os)

-- the map says what the list does
abbrev pub TellsOnce : BTreeMap (Bor (List ℕ)) (Option Lent) → List (List ℕ × Value) → Type 0
TellsOnce once os = (name : List ℕ) → once_in once name ≡ once_among os name

-- these names were assigned, too
abbrev pub Notes : BTreeMap (Bor (List ℕ)) (Option Lent) → List (List ℕ × Value) → BTreeMap (Bor (List ℕ)) (Option Lent) → Type 0
Notes old os new = (before : List (List ℕ × Value)) → TellsOnce old before → TellsOnce new (before ++ os)

-- these are the fixed names of a file
pub record IsFixed (nodes : List Node) (scopes : List Scope) (fixed : Fixed) : Type 0 where
  pub barred : fixed.barred ≡ each_once (barred nodes scopes)
  pub once : TellsOnce fixed.once (flat_map (occurrences_of nodes) (take 1 scopes))
  pub firsts : TellsFirsts fixed.firsts.items fixed.once

abbrev pub flattened : Option Value → Value
flattened None = None
flattened (Some v) = v

-- the literal to which a name is fixed, which may be one of those whose first bytes are marked
abbrev pub fixed_in : Fixed → List ℕ → Value
fixed_in fixed name = if may_be fixed.firsts.items name then (if is_one_of fixed.barred (name_word name) then None else flattened (once_in fixed.once name)) else None
