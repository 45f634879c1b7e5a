-- The expressions in a node that no sanitizer covers, and the outermost ones in a range.
use Rattle.std.specs.Prelude.{Bool, true, false, not, ◌&&◌, ◌||◌, nat_le, if◌then◌else◌, List, [], ◌∷◌, ◌++◌, map}
use Rattle.std.specs.Ordering.{eq_by_cmp}
use Rattle.std.specs.List.{flat_map}
use Rattle.std.specs.Borrow.{Bor}
use Rattle.node_tree.specs.declared.node.Node.{Node, para-Node}
use Rattle.node_tree.specs.declared.kind.Kind.{Kind}
use Rattle.node_tree.specs.declared.kind.Kind.TheVariants as kinds
use Rattle.node_tree.specs.declared.span.Span.{Span}
use Rattle.node_tree.specs.Kinds.{is_expression}
use Rattle.node_tree.specs.Span.{span_cmp}
use Rattle.node_tree.specs.Tree.{kind_of, span_of}
use Rattle.assignments.specs.Trees.{whole}

abbrev pub same_span : Span → Span → Bool
same_span = eq_by_cmp span_cmp

-- the span is one of these
abbrev pub has_span : List Span → Span → Bool
has_span [] span = false
has_span (s ∷ ss) span = same_span s span || has_span ss span

-- the span lies in the range
abbrev pub lies_in : Span → Span → Bool
lies_in range span = nat_le range.from span.from && nat_le span.to range.to

abbrev pub is_lambda : Kind → Bool
is_lambda kinds.Lambda = true
is_lambda _ = false

-- an expression is exposed itself, unless a sanitizer covers it
abbrev pub shown : List Span → Node → List Node
shown sanitizers n = if is_expression (kind_of n) then (if has_span sanitizers (span_of n) then [] else n ∷ []) else []

-- what is below a node may be exposed: not where a sanitizer covers the node, nor in a lambda
abbrev pub opens : List Span → Node → Bool
opens sanitizers n = if is_expression (kind_of n) then (if has_span sanitizers (span_of n) then false else not (is_lambda (kind_of n))) else true

-- what is exposed in a node, where this is exposed below it
abbrev pub exposed_by : List Span → Node → List Node → List Node
exposed_by sanitizers n below = shown sanitizers n ++ (if opens sanitizers n then below else [])

-- the expressions in a node that no sanitizer and no lambda shuts off, itself among them
unfoldable pub exposed : List Span → Node → List Node
exposed sanitizers = para-Node (List Node) (λ x. exposed_by sanitizers (whole x) (flat_map (λ e. e.1) x.kids))

abbrev pub outermost_by : Span → Node → List Node → List Node
outermost_by range n below = if is_expression (kind_of n) && lies_in range (span_of n) then n ∷ [] else below

-- the outermost of the expressions in a node whose spans lie in the range
unfoldable pub outermost : Span → Node → List Node
outermost range = para-Node (List Node) (λ x. outermost_by range (whole x) (flat_map (λ e. e.1) x.kids))

-- what references to nodes point to
abbrev pub nodes_now : List (Bor Node) → List Node
nodes_now = map (λ (n : Bor Node). n.now)
