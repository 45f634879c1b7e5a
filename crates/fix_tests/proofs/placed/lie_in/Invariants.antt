use Rattle.fix_tests.proofs.Stepping.{LieFrom}
use Rattle.fix_tests.proofs.placed.lie_in.Given as goal

abbrev pub invariant-loop-edit : goal.invariant-loop-edit
invariant-loop-edit l = LieFrom l.end l.size l.edits l.edit-index
