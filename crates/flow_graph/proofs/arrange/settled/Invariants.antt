use Rattle.flow_graph.specs.Keys.{Settles}
use Rattle.flow_graph.proofs.arrange.settled.Given as goal

abbrev pub invariant-loop-at : goal.invariant-loop-at
invariant-loop-at l = Settles l.numbers.items l.at l.all.items
