use Rattle.std.specs.Prelude.{All}
use Rattle.tree_match.specs.Placed.{IsLeafPlaced}
use Rattle.rule_tests.proofs.findings.leaves_of.Given as goal

abbrev pub invariant-loop-pattern : goal.invariant-loop-pattern
invariant-loop-pattern g l = All (λ leaf. IsLeafPlaced l.view.bytes leaf) l.leaves
