use Rattle.fix_tests.proofs.Stepping.{OrderedTo}
use Rattle.fix_tests.proofs.placed.are_in_order.Given as goal

abbrev pub invariant-loop-i : goal.invariant-loop-i
invariant-loop-i l = OrderedTo l.results l.i
