-- The effects of a unit, by the places of its names and its literals.
use Rattle.std.specs.Prelude.{ℕ, zero, suc, Bool, ◌||◌, if◌then◌else◌, List, [], ◌∷◌, length, map, Option, Some, None}
use Rattle.std.specs.List.{flat_map, list_any}
use Rattle.node_tree.specs.declared.node.Node.{Node}
use Rattle.node_tree.specs.Kinds.{is_literal}
use Rattle.node_tree.specs.Tree.{kind_of}
use Rattle.assignments.specs.declared.assignment.Manner.{Manner}
use Rattle.assignments.specs.declared.assignment.Manner.TheVariants as manners
use Rattle.assignments.specs.declared.assignment.Reach.{Reach}
use Rattle.assignments.specs.declared.assignment.Reach.TheVariants as reaches
use Rattle.assignments.specs.Assignments.{assigned_of}
use Rattle.assignments.specs.Seen.{Named, Assigned}
use Rattle.assignments.specs.Targets.{is_name}
use Rattle.held_values.specs.declared.assign.Assign.{Assign}
use Rattle.held_values.specs.declared.assign.Effects.{Effects}
use Rattle.held_values.specs.declared.assign.Source.{Source}
use Rattle.held_values.specs.declared.assign.Source.TheVariants.{Sets, Copies}
use Rattle.unit_names.specs.declared.scope.Scope.{Scope}
use Rattle.unit_effects.specs.declared.entry.Entry.{Entry}
use Rattle.unit_effects.specs.Fixed.{Value, State}
use Rattle.unit_names.specs.Names.{is_assigned}
use Rattle.unit_effects.specs.Once.{fixed_in}
use Rattle.unit_names.specs.Words.{Word, word_of, name_word, is_one_of, place_of}

-- whether nothing is ever known of a name
abbrev pub hides : Entry → List ℕ → Bool
hides e name = is_one_of e.shared.now (name_word name) || is_one_of e.referred.now (name_word name)

-- whether a function around the unit has a name of its own, or the unit does
abbrev pub shadows : Entry → List ℕ → Bool
shadows e name = list_any (λ f. is_one_of f.own (name_word name)) e.around.now

-- what a name holds at the entry
abbrev pub entry_by : ℕ → Entry → State
entry_by zero e name = None
entry_by (suc n) e name = if hides e name || shadows e name then None else fixed_in e.fixed.now name

abbrev pub entry_value : Entry → State
entry_value e = entry_by e.unit e

-- the number of a literal: one more than its place, and 0 for none
abbrev pub number_by : Option ℕ → ℕ
number_by None = 0
number_by (Some k) = suc k

abbrev pub number_of : List Word → Value → ℕ
number_of literals None = 0
number_of literals (Some w) = number_by (place_of literals w)

abbrev pub copied : Option ℕ → Source
copied None = Sets 0
copied (Some k) = Copies k

-- what a node gives
abbrev pub source_of : List Word → List Word → Node → Source
source_of names literals n =
    if is_literal (kind_of n) then Sets (number_of literals (Some (word_of n))) else if is_name (kind_of n) then copied (place_of names (word_of n)) else Sets 0

abbrev pub source_given : List Word → List Word → Manner → Option Node → Source
source_given names literals manners.Statement (Some n) = source_of names literals n
source_given names literals manners.Expression (Some n) = source_of names literals n
source_given names literals _ _ = Sets 0

-- what a target gets
abbrev pub source_got : Reach → Source → Source
source_got reaches.Whole source = source
source_got _ source = Sets 0

abbrev pub source_gets : Bool → Reach → Source → Source
source_gets hidden reach source = if hidden then Sets 0 else source_got reach source

abbrev pub assigned_to : Option ℕ → Source → List Assign
assigned_to None source = []
assigned_to (Some k) source = record { name = k; source = source } ∷ []

abbrev pub target_assigns : List Word → (List ℕ → Bool) → Source → Named → List Assign
target_assigns names hidden source t = if is_assigned t.reach then assigned_to (place_of names (name_word t.name)) (source_gets (hidden t.name) t.reach source) else []

-- what an assignment does
abbrev pub one_assigns : List Word → List Word → (List ℕ → Bool) → Assigned → List Assign
one_assigns names literals hidden a = flat_map (target_assigns names hidden (source_given names literals a.manner a.value)) a.targets

-- what a unit does to its names
abbrev pub effects_of : List Node → List Word → List Word → (List ℕ → Bool) → State → Scope → Effects
effects_of nodes names literals hidden start s = record {
  literals = length literals;
  start = map (λ (w : Word). number_of literals (start w.text)) names;
  points = map (λ p. map (one_assigns names literals hidden) (assigned_of nodes p)) s.graph.points;
}
