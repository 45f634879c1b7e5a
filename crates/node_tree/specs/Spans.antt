-- Trees whose spans lie in a text.
use Rattle.std.specs.Prelude.{ℕ, List, All}
use Rattle.node_tree.specs.declared.node.Node.{Node}
use Rattle.node_tree.specs.Span.{LiesIn}
use Rattle.node_tree.specs.Tree.{pre_of, span_of}

-- the span of each node of the tree lies in the text, and cuts no character of it
abbrev pub SpansLieIn : List ℕ → Node → Type 0
SpansLieIn text tree = All (λ n. LiesIn text (span_of n)) (pre_of tree)
