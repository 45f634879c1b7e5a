use Rattle.std.specs.Prelude.{All}
use Rattle.node_tree.specs.declared.span.Span.{Span}
use Rattle.node_tree.specs.Span.{LiesIn}
use Rattle.fix_tests.proofs.placed.spans_in.Given as goal

abbrev pub invariant-loop-from : goal.invariant-loop-from
invariant-loop-from l = All (λ (s : Span). LiesIn l.text s) l.spans
