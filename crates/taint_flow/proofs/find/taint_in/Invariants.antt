use Rattle.taint_flow.proofs.Scoped.{IsSoFar}
use Rattle.taint_flow.proofs.find.taint_in.Given as goal

abbrev pub invariant-loop-scope : goal.invariant-loop-scope
invariant-loop-scope l = IsSoFar l.root l.sets l.scopes l.scope-index l.least.sources.items
