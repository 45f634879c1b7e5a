-- Units in which no name is ever known.
use Rattle.std.specs.Prelude.{◌≡◌, ℕ, Bool, true, false, ◌&&◌, ◌||◌, if◌then◌else◌, List, [], ◌∷◌, ◌++◌, Option, Some, None}
use Rattle.std.specs.List.{flat_map, list_any}
use Rattle.std.specs.Option.{is_some}
use Rattle.node_tree.specs.declared.node.Node.{Node}
use Rattle.node_tree.specs.Kinds.{is_literal}
use Rattle.node_tree.specs.Numbers.{Numbered}
use Rattle.node_tree.specs.Tree.{kind_of, text_of}
use Rattle.graph_form.specs.declared.graph.Point.{Point}
use Rattle.point_nodes.specs.Tops.{nodes_of}
use Rattle.assignments.specs.declared.assignment.Manner.{Manner}
use Rattle.assignments.specs.declared.assignment.Manner.TheVariants as manners
use Rattle.assignments.specs.declared.assignment.Reach.{Reach}
use Rattle.assignments.specs.declared.assignment.Reach.TheVariants as reaches
use Rattle.assignments.specs.Assignments.{assigned_of}
use Rattle.assignments.specs.Seen.{Named, Assigned}
use Rattle.assignments.specs.Targets.{is_name}
use Rattle.unit_names.specs.declared.scope.Scope.{Scope}
use Rattle.unit_effects.specs.Fixed.{Value, State}

abbrev pub is_whole : Reach → Bool
is_whole reaches.Whole = true
is_whole _ = false

-- whether a node is a name that holds a literal at the entry
abbrev pub holds : State → Node → Bool
holds start n = is_name (kind_of n) && is_some (start (text_of n))

-- whether a value is a literal, or what a name holds at the entry
abbrev pub says : State → Node → Bool
says start n = is_literal (kind_of n) || holds start n

abbrev pub says_by : State → Manner → Option Node → Bool
says_by start manners.Statement (Some n) = says start n
says_by start manners.Expression (Some n) = says start n
says_by start _ _ = false

-- whether an assignment gives such a value to a name
abbrev pub gives : State → Assigned → Bool
gives start a = list_any (λ (t : Named). is_whole t.reach) a.targets && says_by start a.manner a.value

-- whether a point of a unit does
abbrev pub is_given_at : List Node → State → Point → Bool
is_given_at nodes start p = list_any (gives start) (assigned_of nodes p)

abbrev pub is_given : List Node → State → Scope → Bool
is_given nodes start s = list_any (is_given_at nodes start) s.graph.points

-- a name of which nothing is known
abbrev pub unknown : Numbered → List (ℕ × Value)
unknown s = if is_name (kind_of s.node) then (s.at, None) ∷ [] else []

-- none of these nodes is a name that holds a literal at the entry, and the names among them were added
abbrev pub is_heard : State → List Numbered → Bool
is_heard start = list_any (λ s. holds start s.node)

abbrev pub AddsSilent : State → List Numbered → List (ℕ × Value) → List (ℕ × Value) → Type 0
AddsSilent start ns old new = (is_heard start ns ≡ false) × (new ≡ old ++ flat_map unknown ns)

-- the same of the nodes of points
abbrev pub all_unknown : List Node → List Point → List (ℕ × Value)
all_unknown nodes = flat_map (λ p. flat_map unknown (nodes_of nodes p))

abbrev pub AddsAllSilent : List Node → State → List Point → List (ℕ × Value) → List (ℕ × Value) → Type 0
AddsAllSilent nodes start ps old new = (list_any (λ p. is_heard start (nodes_of nodes p)) ps ≡ false) × (new ≡ old ++ all_unknown nodes ps)
