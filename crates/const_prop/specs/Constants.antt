-- Which names of a file are known to hold which literals.
use Rattle.std.specs.Prelude.{◌≡◌, ◌↔◌, ◌+◌, ◌*◌, ◌≤◌, ℕ, zero, suc, Bool, ◌&&◌, ◌||◌, if◌then◌else◌, List, [], ◌∷◌, ◌++◌, length, filter, not, nat_lt, slice_get, Option, Some, None}
use Rattle.std.specs.List.{flat_map}
use Rattle.std.specs.Option.{option_to_list}
use Rattle.std.specs.Str.{bytes_eq}
use Rattle.node_tree.specs.declared.node.Node.{Node}
use Rattle.node_tree.specs.declared.known.Known.{Known}
use Rattle.node_tree.specs.declared.kind.Kind.TheVariants as kinds
use Rattle.node_tree.specs.Kinds.{is_literal}
use Rattle.node_tree.specs.KnownNames.{IsNameAt, AreInOrder}
use Rattle.node_tree.specs.Tree.{pre_of, kind_of, text_of}
use Rattle.graph_form.specs.declared.graph.Graph.{Graph}
use Rattle.graph_form.specs.declared.graph.Point.{Point}
use Rattle.graph_form.specs.Sets.{Among}
use Rattle.held_values.specs.Holding.{IsRoute}
use Rattle.point_nodes.specs.Tops.{node_at, nodes_of}
use Rattle.assignments.specs.declared.assignment.Manner.{Manner}
use Rattle.assignments.specs.declared.assignment.Manner.TheVariants as manners
use Rattle.assignments.specs.declared.assignment.Reach.{Reach}
use Rattle.assignments.specs.declared.assignment.Reach.TheVariants as reaches
use Rattle.assignments.specs.Assignments.{assigned_of}
use Rattle.assignments.specs.Seen.{Named, Assigned}
use Rattle.assignments.specs.Targets.{is_name}
use Rattle.unit_names.specs.declared.scope.Scope.{Scope}
use Rattle.unit_names.specs.Names.{is_assigned, own_words, shared_in, referred_of, name_words, literal_words}
use Rattle.unit_effects.specs.Fixed.{Value, State, fixed, end_of}
use Rattle.unit_names.specs.Scopes.{AreScopes}
use Rattle.unit_names.specs.Words.{Word, word_of, name_word, leaf, is_one_of, each_once}

-- ---- what names hold along a route

-- what a node gives: a literal itself, and a name what it holds
abbrev pub value_of : State → Node → Value
value_of state n = if is_literal (kind_of n) then Some (word_of n) else if is_name (kind_of n) then state (text_of n) else None

-- what an assignment gives: nothing is known of a value that is joined, gone through or counted, nor of what is deleted, imported,
-- caught, defined or only declared
abbrev pub given : Manner → State → Option Node → Value
given manners.Statement state (Some n) = value_of state n
given manners.Expression state (Some n) = value_of state n
given _ state _ = None

-- what a target gets: nothing is known of a part of one, nor of a name that is hidden
abbrev pub got : Reach → Value → Value
got reaches.Whole value = value
got _ value = None

abbrev pub gets : List Word → Value → Named → Value
gets hidden value t = if is_one_of hidden (name_word t.name) then None else got t.reach value

abbrev pub after_target : List Word → Value → State → Named → State
after_target hidden value now t = if is_assigned t.reach then (λ name. if bytes_eq t.name name then gets hidden value t else now name) else now

abbrev pub after_targets : List Word → Value → State → List Named → State
after_targets hidden value now [] = now
after_targets hidden value now (t ∷ ts) = after_targets hidden value (after_target hidden value now t) ts

-- the state after one assignment, whose targets all take the value before it, and after several
abbrev pub after_one : List Word → State → Assigned → State
after_one hidden state a = after_targets hidden (given a.manner state a.value) state a.targets

abbrev pub after_all : List Word → State → List Assigned → State
after_all hidden state [] = state
after_all hidden state (one ∷ many) = after_all hidden (after_one hidden state one) many

-- what a point assigns
abbrev pub assigned_by : List Node → Option Point → List Assigned
assigned_by nodes None = []
assigned_by nodes (Some p) = assigned_of nodes p

-- the state after these points of a graph, the last one first, from that at the entry on
abbrev pub left : List Node → List Word → State → Graph → List ℕ → State
left nodes hidden start graph [] = start
left nodes hidden start graph (last ∷ earlier) = after_all hidden (left nodes hidden start graph earlier) (assigned_by nodes (slice_get graph.points last))

-- the names of which nothing is ever known in a unit: what is `global` or `nonlocal` anywhere in the file, and that to which `&` is
-- applied in the unit
abbrev pub hidden_in : List Node → Scope → List Word
hidden_in nodes s = flat_map shared_in nodes ++ referred_of nodes s

-- ---- what names hold at the entry of a unit

-- whether a unit is a function around that number: one of its nodes has it
abbrev pub is_around : List Node → ℕ → Scope → Bool
is_around nodes at s = nat_lt 0 s.unit && not (nat_lt at s.unit) && nat_lt at (end_of (node_at nodes s.unit))

-- the names that the function of that number, or one around it, assigns or has as parameters
abbrev pub shadowed : List Node → List Scope → ℕ → List Word
shadowed nodes scopes unit = flat_map (own_words nodes) (filter (is_around nodes unit) scopes)

-- what is known at the entry of a unit: at the top level nothing, in a function what the fixed names of the module hold, unless it
-- hides them or it or a function around it has names of its own in their place
abbrev pub start_by : ℕ → List Node → List Scope → Scope → State
start_by zero nodes scopes s name = None
start_by (suc n) nodes scopes s name =
    if is_one_of (hidden_in nodes s) (name_word name) || is_one_of (shadowed nodes scopes s.unit) (name_word name) then None else fixed nodes scopes name

abbrev pub start_of : List Node → List Scope → Scope → State
start_of nodes scopes s = start_by s.unit nodes scopes s

-- ---- the size of a unit

-- the names at its points and its parameters
abbrev pub names_of : List Node → Scope → List Word
names_of nodes s = each_once (name_words nodes s)

-- the literals at its points, and those that its names hold at the entry
abbrev pub literals_of : List Node → State → Scope → List Word
literals_of nodes start s = each_once (literal_words nodes s ++ flat_map (λ (w : Word). option_to_list (start w.text)) (names_of nodes s))

-- the points times the names times the literals and one more are not too many
abbrev pub IsSmall : List Node → State → Scope → Type 0
IsSmall nodes start s = length s.graph.points * length (names_of nodes s) * (length (literals_of nodes start s) + 1) ≤ 50000000

-- ---- what is known

-- some route reaches the point, and each such route leaves the literal in the name before it
pub record Holds (nodes : List Node) (start : State) (s : Scope) (point : ℕ) (name : List ℕ) (literal : Word) : Type 0 where
  pub some : (route : List ℕ) × IsRoute s.graph route point
  pub every : (route : List ℕ) → IsRoute s.graph route point → left nodes (hidden_in nodes s) start s.graph route name ≡ Some literal

abbrev pub numbers_in : Assigned → List ℕ
numbers_in a = flat_map (λ (t : Named). if is_assigned t.reach then t.at ∷ [] else []) a.targets

-- the numbers of the names that a point assigns
abbrev pub target_numbers : List Node → Point → List ℕ
target_numbers nodes p = flat_map numbers_in (assigned_of nodes p)

-- the node of that number is a name that belongs to the point at that place of the unit
pub record IsNameIn (root : Node) (scopes : List Scope) (s : Scope) (place : ℕ) (p : Point) (at : ℕ) (n : Node) : Type 0 where
  pub unit : Among scopes s
  pub point : slice_get s.graph.points place ≡ Some p
  pub node : Among (nodes_of (pre_of root) p) (record { at = at; node = n })
  pub name : kind_of n ≡ kinds.Name

-- the name is no target at the point at that place and holds the literal there, and the unit isn't too large
pub record Reads (nodes : List Node) (start : State) (s : Scope) (place : ℕ) (p : Point) (at : ℕ) (n : Node) (literal : Word) : Type 0 where
  pub small : IsSmall nodes start s
  pub read : Among (target_numbers nodes p) at → ⊥
  pub holds : Holds nodes start s place (text_of n) literal

-- the name of that number belongs to a point, and holds the literal at each point that it belongs to
pub record IsKnown (root : Node) (scopes : List Scope) (at : ℕ) (literal : Word) : Type 0 where
  pub is_name : IsNameAt root at
  pub some : (s : Scope) × (place : ℕ) × (p : Point) × (n : Node) × IsNameIn root scopes s place p at n
  pub every : (s : Scope) (place : ℕ) (p : Point) (n : Node) → IsNameIn root scopes s place p at n → Reads (pre_of root) (start_of (pre_of root) scopes s) s place p at n literal

-- the list is in order of number, and has just the names that are known to hold a literal, with this
pub record AreConstants (root : Node) (known : List Known) : Type 0 where
  pub scopes : List Scope
  pub units : AreScopes root scopes
  pub in_order : AreInOrder known
  pub exact : (k : Known) → Among known k ↔ ((literal : Word) × (k.literal ≡ leaf literal) × IsKnown root scopes k.at literal)
