-- Spans of a tree lie in a text where those of its parts do.
use Rattle.std.proofs.Common.{ℕ, List, [], ◌∷◌}
use Rattle.std.specs.Prelude.{All}
use Rattle.std.proofs.lemmas.List.Elements.{All-nil, All-cons, All-append}
use Rattle.std.proofs.lemmas.List.Concat.{flat_map-cons}
use Rattle.node_tree.specs.declared.node.Node.{Node}
use Rattle.node_tree.specs.Span.{LiesIn}
use Rattle.node_tree.specs.Tree.{pre_of, pre_all, kids_of, span_of}
use Rattle.node_tree.specs.Spans.{SpansLieIn}
use Rattle.node_tree.proofs.Trees.{pre_is}

-- the spans of some trees lie in the text
abbrev pub AllLieIn : List ℕ → List Node → Type 0
AllLieIn text ns = All (λ n. LiesIn text (span_of n)) (pre_all ns)

pub none_lie : (text : List ℕ) → AllLieIn text []
none_lie text = All-nil (λ n. LiesIn text (span_of n))

pub more_lie : (text : List ℕ) (n : Node) (ns : List Node) → SpansLieIn text n → AllLieIn text ns → AllLieIn text (n ∷ ns)
more_lie text n ns p q = rw (flat_map-cons pre_of n ns) (All-append (λ n. LiesIn text (span_of n)) (pre_of n) (pre_all ns) p q)

pub node_lies : (text : List ℕ) (n : Node) → LiesIn text (span_of n) → AllLieIn text (kids_of n) → SpansLieIn text n
node_lies text n p q = rw (pre_is n) (All-cons (λ n. LiesIn text (span_of n)) n (pre_all (kids_of n)) p q)
