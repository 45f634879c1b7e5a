-- The order of nodes.
use Rattle.std.specs.Prelude.{ℕ}
use Rattle.std.specs.declared.cmp.Ordering.{Ordering}
use Rattle.std.specs.Ordering.{nat_cmp, ordering_then}
use Rattle.std.specs.Cmp.Lexicographic.{slice_cmp}
use denote.Enum.Declared.{tag_of}
use Rattle.node_tree.specs.declared.node.Node.{Node, Node-F, fold-Node}
use Rattle.node_tree.specs.declared.kind.Kind.{Kind}
use Rattle.node_tree.specs.contracts.kind.Kind.{the_type}
use Rattle.node_tree.specs.Span.{span_cmp}
use Rattle.node_tree.specs.Tree.{kind_of, text_of, kids_of, span_of}

-- the place of a kind in the order of kinds
abbrev pub kind_place : Kind → ℕ
kind_place k = tag_of the_type k

-- by kind, then text, then kids; last by span, which contents don't have
abbrev pub node_step : Node-F (Node → Ordering) → Node → Ordering
node_step x m =
    ordering_then (nat_cmp (kind_place x.kind) (kind_place (kind_of m))) (ordering_then (slice_cmp nat_cmp x.text (text_of m))
    (ordering_then (slice_cmp (λ (f : Node → Ordering) (k : Node). f k) x.kids (kids_of m)) (span_cmp x.span (span_of m))))

unfoldable pub node_cmp : Node → Node → Ordering
node_cmp = fold-Node (Node → Ordering) node_step
