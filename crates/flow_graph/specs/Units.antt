-- The units of a file and their graphs.
use Rattle.std.specs.Prelude.{◌≡◌, ◌↔◌, ◌<◌, ◌⊎◌, ◌-◌, ◌^◌, ℕ, zero, suc, if◌then◌else◌, List, [], ◌∷◌, length, drop, map, filter, slice_get, Option, Some, None}
use Rattle.std.specs.List.{flat_map}
use Rattle.node_tree.specs.declared.node.Node.{Node}
use Rattle.node_tree.specs.Kinds.{is_function}
use Rattle.node_tree.specs.Numbers.{Numbered, count_of, kids_at, numbered, root_of}
use Rattle.node_tree.specs.Tree.{pre_of, kind_of, kids_of}
use Rattle.graph_form.specs.declared.graph.Point.{Point}
use Rattle.graph_form.specs.declared.graph.Role.{Role}
use Rattle.graph_form.specs.declared.graph.Role.TheVariants as roles
use Rattle.graph_form.specs.declared.graph.Graph.{Graph}
use Rattle.graph_form.specs.declared.graph.Edge.{Edge}
use Rattle.graph_form.specs.Edges.{HasEdge}
use Rattle.graph_form.specs.Sets.{Among}
use Rattle.flow_edges.specs.declared.statement.Statement.{Statement}
use Rattle.flow_edges.specs.Flow.{IsEdge, points}
use Rattle.flow_graph.specs.declared.labels.Label.{Label}
use Rattle.flow_graph.specs.Outline.{labels_in, outlined}

-- the numbers of the functions among nodes in preorder, of which the first has this one
abbrev pub functions_from : ℕ → List Node → List ℕ
functions_from at ns = map (λ (s : Numbered). s.at) (filter (λ (s : Numbered). is_function (kind_of s.node)) (numbered at ns))

-- the top level, and each function below the root, by number
abbrev pub units_of : Node → List ℕ
units_of root = 0 ∷ functions_from 1 (drop 1 (pre_of root))

abbrev pub body_at : ℕ → Option Node → List Numbered
body_at at None = []
body_at at (Some n) = if is_function (kind_of n) then drop (length (kids_of n) - 1) (kids_at (record { at = at; node = n })) else []

-- the body of a unit: the whole of the file for the top level, else the last kid of the function of that number
abbrev pub body_of : Node → ℕ → List Numbered
body_of root zero = root_of root ∷ []
body_of root (suc k) = body_at (suc k) (slice_get (pre_of root) (suc k))

abbrev pub entry_of : ℕ → Point
entry_of unit = record { node = unit; role = roles.Entry }

abbrev pub exit_of : ℕ → Point
exit_of unit = record { node = unit; role = roles.Exit }

-- the statements of a unit with this body, down to a depth
abbrev pub statements_in : ℕ → ℕ → List Numbered → List Statement
statements_in depth unit body = map (outlined (flat_map (labels_in depth) body) (exit_of unit) depth) body

-- the points of a unit with this body
abbrev pub points_in : ℕ → ℕ → List Numbered → List Point
points_in depth unit body = entry_of unit ∷ exit_of unit ∷ flat_map (points depth) (statements_in depth unit body)

-- control goes there from the one point to the other
abbrev pub GoesIn : ℕ → ℕ → List Numbered → Point → Point → Type 0
GoesIn depth unit body a b = IsEdge depth (entry_of unit) (exit_of unit) (statements_in depth unit body) a b

-- the points of a unit: no tree is deeper than the number of its nodes
abbrev pub points_of : Node → ℕ → List Point
points_of root unit = points_in (count_of root) unit (body_of root unit)

-- control goes from the one point to the other
abbrev pub Goes : Node → ℕ → Point → Point → Type 0
Goes root unit a b = GoesIn (count_of root) unit (body_of root unit) a b

-- the order of roles
abbrev pub role_place : Role → ℕ
role_place roles.Entry = 0
role_place roles.Exit = 1
role_place roles.Head = 2
role_place roles.Init = 3
role_place roles.Test = 4
role_place roles.Step = 5

-- the one point stands before the other: by node, and then by role
abbrev pub IsPointBefore : Point → Point → Type 0
IsPointBefore a b = (a.node < b.node) ⊎ ((a.node ≡ b.node) × (role_place a.role < role_place b.role))

-- the one edge stands before the other
abbrev pub IsEdgeBefore : Edge → Edge → Type 0
IsEdgeBefore a b = (a.from < b.from) ⊎ ((a.from ≡ b.from) × (a.to < b.to))

-- each item stands before those behind it, so that each stands there once
abbrev pub InOrder : {X : Type 0} → (X → X → Type 0) → List X → Type 0
InOrder {X} Before xs = (i j : ℕ) (x y : X) → i < j → slice_get xs i ≡ Some x → slice_get xs j ≡ Some y → Before x y

-- the graph has these points and these edges between them, in order
pub record IsGraphOf (these : List Point) (To : Point → Point → Type 0) (graph : Graph) : Type 0 where
  pub points : (p : Point) → Among graph.points p ↔ Among these p
  pub points_order : InOrder IsPointBefore graph.points
  pub edges : (i j : ℕ) → HasEdge graph i j ↔ ((a : Point) × (slice_get graph.points i ≡ Some a) × (b : Point) × (slice_get graph.points j ≡ Some b) × To a b)
  pub edges_order : InOrder IsEdgeBefore graph.edges
  pub few : length graph.points < 2 ^ 32
