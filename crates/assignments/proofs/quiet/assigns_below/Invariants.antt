use Rattle.assignments.proofs.QuietBelow.{QuietTo}
use Rattle.assignments.proofs.quiet.assigns_below.Given as goal

abbrev pub invariant-loop-further : goal.invariant-loop-further
invariant-loop-further l = QuietTo l.node.node.now l.further
