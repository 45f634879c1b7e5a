-- What a view of a unit says of the names at its points.
use Rattle.std.specs.Prelude.{◌≡◌, ◌+◌, ◌-◌, ◌*◌, ◌<◌, ℕ, suc, Bool, ◌||◌, ◌==◌, if◌then◌else◌, List, [], ◌∷◌, ◌++◌, length, slice_get, slice_index, Option, Some, None, IfSome}
use Rattle.std.specs.BTreeSet.{BTreeSet, contains}
use Rattle.std.specs.List.{flat_map, list_any}
use Rattle.std.specs.Option.{option_copied}
use Rattle.std.specs.Ordering.{nat_cmp}
use Rattle.node_tree.specs.declared.node.Node.{Node}
use Rattle.node_tree.specs.Numbers.{Numbered}
use Rattle.node_tree.specs.Tree.{kind_of}
use Rattle.graph_form.specs.declared.graph.Point.{Point}
use Rattle.held_values.specs.declared.held.HeldValues.{HeldValues}
use Rattle.point_nodes.specs.Tops.{nodes_of}
use Rattle.assignments.specs.Targets.{is_name}
use Rattle.unit_names.specs.Words.{Word, word_of, place_of}
use Rattle.unit_effects.specs.Fixed.{Value}
use Rattle.const_prop.specs.declared.view.View.{View}
use Rattle.const_prop.specs.Constants.{target_numbers}

-- ---- the literal that a name holds

-- the number that the answer has for a name before a point
abbrev pub number_there : HeldValues → ℕ → ℕ → ℕ
number_there held place name = slice_index held.values.items (name * held.points + place)

-- nothing, where it is 0, which is unknown, or the greatest, where no route leads
abbrev pub told : ℕ → Option ℕ
told number = if number == 0 || number == 4294967295 then None else Some number

-- the literal of a number, from 1
abbrev pub numbered_by : List Word → Option ℕ → Value
numbered_by literals None = None
numbered_by literals (Some number) = slice_get literals (number - 1)

-- the literal that the name of that number holds, if there is one
abbrev pub literal_in : HeldValues → List Word → ℕ → Option ℕ → Value
literal_in held literals place None = None
literal_in held literals place (Some name) = numbered_by literals (told (number_there held place name))

abbrev pub held_by : Option HeldValues → List Word → List Word → ℕ → Word → Value
held_by None names literals place name = None
held_by (Some held) names literals place name = literal_in held literals place (place_of names name)

-- the literal that a name holds before the point at that place
abbrev pub held_at : View → ℕ → Word → Value
held_at view = held_by (option_copied view.held) view.tables.names.now view.tables.literals.now

-- the answer, if there is one, is about so many points and names
abbrev pub IsAbout : Option HeldValues → ℕ → ℕ → Type 0
IsAbout held points names = IfSome held (λ h. (h.points ≡ points) × (h.names ≡ names))

-- the answer, if there is one, has the point at that place and the names
abbrev pub Reaches : View → ℕ → Type 0
Reaches view place = IfSome (option_copied view.held) (λ h. (place < h.points) × (h.names ≡ length view.tables.names.now))

-- ---- the names at points

abbrev pub is_in : List ℕ → ℕ → Bool
is_in numbers at = list_any (λ n. n == at) numbers

-- the set has these numbers, and those that it had
abbrev pub AddsNumbers : BTreeSet ℕ → List ℕ → BTreeSet ℕ → Type 0
AddsNumbers old numbers new = (at : ℕ) → contains nat_cmp new at ≡ (contains nat_cmp old at || is_in numbers at)

-- what is known of a node where it is a name: nothing where it is a target
abbrev pub sighted : (ℕ → Bool) → (Word → Value) → Numbered → List (ℕ × Value)
sighted is_target held s = if is_name (kind_of s.node) then (s.at, if is_target s.at then None else held (word_of s.node)) ∷ [] else []

-- what is known of the names of a point
abbrev pub sightings_at : List Node → (Word → Value) → Point → List (ℕ × Value)
sightings_at nodes held p = flat_map (sighted (is_in (target_numbers nodes p)) held) (nodes_of nodes p)

-- what is known of the names of points, of which the first has that place
abbrev pub sightings_from : List Node → (ℕ → Word → Value) → ℕ → List Point → List (ℕ × Value)
sightings_from nodes held place [] = []
sightings_from nodes held place (p ∷ ps) = sightings_at nodes (held place) p ++ sightings_from nodes held (suc place) ps
