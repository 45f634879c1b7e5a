-- What is known of the names at the points of one unit.
use Rattle.std.specs.Prelude.{◌≡◌, ◌⊎◌, ◌↔◌, ◌<◌, ◌^◌, ℕ, List, length, slice_get, Some}
use Rattle.node_tree.specs.declared.node.Node.{Node}
use Rattle.node_tree.specs.declared.kind.Kind.TheVariants as kinds
use Rattle.node_tree.specs.Tree.{kind_of}
use Rattle.graph_form.specs.declared.graph.Graph.{Graph}
use Rattle.graph_form.specs.declared.graph.Point.{Point}
use Rattle.graph_form.specs.Edges.{HasEdge}
use Rattle.graph_form.specs.Sets.{Among}
use Rattle.point_nodes.specs.Tops.{nodes_of}
use Rattle.unit_names.specs.declared.scope.Scope.{Scope}
use Rattle.unit_names.specs.Words.{Word, name_word, is_one_of}
use Rattle.unit_effects.specs.declared.entry.Entry.{Entry}
use Rattle.unit_effects.specs.Fixed.{Value, State}
use Rattle.unit_effects.specs.Numbering.{hides}
use Rattle.const_prop.specs.Constants.{Reads, hidden_in}

-- there is a point, the entry, there are not too many, and edges are between points that are there
pub record IsWhole (graph : Graph) : Type 0 where
  pub entry : 0 < length graph.points
  pub few : length graph.points < 2 ^ 32
  pub edges : (from to : ℕ) → HasEdge graph from to → (from < length graph.points) × (to < length graph.points)

-- the entry hides just the names of which nothing is ever known in the unit
abbrev pub IsHiding : List Node → Scope → Entry → Type 0
IsHiding nodes s entry = (name : List ℕ) → hides entry name ≡ is_one_of (hidden_in nodes s) (name_word name)

-- the value says which literal the name holds there
abbrev pub Says : List Node → State → Scope → ℕ → Point → ℕ → Node → Value → Type 0
Says nodes start s place p at n value = (literal : Word) → (value ≡ Some literal) ↔ Reads nodes start s place p at n literal

-- the name belongs to the point at that place and was seen there with this value
pub record IsSeen (nodes : List Node) (start : State) (s : Scope) (place : ℕ) (p : Point) (at : ℕ) (n : Node) (value : Value) : Type 0 where
  pub node : Among (nodes_of nodes p) (record { at = at; node = n })
  pub name : kind_of n ≡ kinds.Name
  pub says : Says nodes start s place p at n value

-- the name of that number was seen with this value at a point of the unit
abbrev pub IsSeenIn : List Node → State → Scope → ℕ → Value → Type 0
IsSeenIn nodes start s at value = (place : ℕ) × (p : Point) × (n : Node) × (slice_get s.graph.points place ≡ Some p) × IsSeen nodes start s place p at n value

-- each name at a point of the unit was seen, and nothing else was added
pub record AddsSeen (nodes : List Node) (start : State) (s : Scope) (old new : List (ℕ × Value)) : Type 0 where
  pub kept : (g : ℕ × Value) → Among old g → Among new g
  pub only : (at : ℕ) (value : Value) → Among new (at, value) → Among old (at, value) ⊎ IsSeenIn nodes start s at value
  pub each : (place : ℕ) (p : Point) (at : ℕ) (n : Node) → slice_get s.graph.points place ≡ Some p → Among (nodes_of nodes p) (record { at = at; node = n }) → kind_of n ≡ kinds.Name
      → (value : Value) × Says nodes start s place p at n value × Among new (at, value)
