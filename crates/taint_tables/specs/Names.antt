-- The names at points, and the spans of the expressions there.
use Rattle.std.specs.Prelude.{ℕ, Bool, true, false, if◌then◌else◌, List, [], ◌∷◌, ◌++◌, map, filter}
use Rattle.std.specs.List.{flat_map}
use Rattle.node_tree.specs.declared.node.Node.{Node}
use Rattle.node_tree.specs.declared.span.Span.{Span}
use Rattle.node_tree.specs.Kinds.{is_expression}
use Rattle.node_tree.specs.Numbers.{Numbered}
use Rattle.node_tree.specs.Tree.{kind_of, text_of, span_of}
use Rattle.graph_form.specs.declared.graph.Point.{Point}
use Rattle.point_nodes.specs.Tops.{nodes_of}
use Rattle.assignments.specs.declared.assignment.Manner.{Manner}
use Rattle.assignments.specs.declared.assignment.Manner.TheVariants as manners
use Rattle.assignments.specs.Assignments.{assigned_of}
use Rattle.assignments.specs.Declarators.{parameters_of}
use Rattle.assignments.specs.Seen.{Named, Assigned}
use Rattle.assignments.specs.Targets.{is_name}
use Rattle.taint_form.specs.Expressions.{has_span}

-- the targets are variables, and no imports, caught exceptions, functions or classes
abbrev pub are_variables : Manner → Bool
are_variables manners.Imported = false
are_variables manners.Caught = false
are_variables manners.Defined = false
are_variables _ = true

abbrev pub name_of : Numbered → List (List ℕ)
name_of s = if is_name (kind_of s.node) then text_of s.node ∷ [] else []

abbrev pub variables_of : Assigned → List (List ℕ)
variables_of a = if are_variables a.manner then map (λ (t : Named). t.name) a.targets else []

-- the names at a point of a tree with these nodes in preorder: those that belong to it, and the variables that it assigns
abbrev pub names_at : List Node → Point → List (List ℕ)
names_at nodes p = flat_map name_of (nodes_of nodes p) ++ flat_map variables_of (assigned_of nodes p)

-- the names at these points, and the parameters of a unit
abbrev pub names_among : List Node → ℕ → List Point → List (List ℕ)
names_among nodes unit points = flat_map (names_at nodes) points ++ map (λ (s : Numbered). text_of s.node) (parameters_of nodes unit)

abbrev pub span_here : Numbered → List Span
span_here s = if is_expression (kind_of s.node) then span_of s.node ∷ [] else []

-- the spans of the expressions at a point
abbrev pub spans_at : List Node → Point → List Span
spans_at nodes p = flat_map span_here (nodes_of nodes p)

-- the spans of the expressions at these points, and of the parameters of a unit
abbrev pub spans_among : List Node → ℕ → List Point → List Span
spans_among nodes unit points = flat_map (spans_at nodes) points ++ map (λ (s : Numbered). span_of s.node) (parameters_of nodes unit)

-- those of them that are sources
abbrev pub sources_among : List Node → ℕ → List Point → List Span → List Span
sources_among nodes unit points sources = filter (has_span sources) (spans_among nodes unit points)
