-- The edges of a graph as a relation.
use Rattle.std.specs.Prelude.{ℕ}
use Rattle.graph_form.specs.declared.graph.Graph.{Graph}
use Rattle.graph_form.specs.declared.graph.Edge.{Edge}
use Rattle.graph_form.specs.Sets.{Among}

-- an edge leads from the one point to the other
abbrev pub HasEdge : Graph → ℕ → ℕ → Type 0
HasEdge graph from to = Among graph.edges (record { from = from; to = to })
