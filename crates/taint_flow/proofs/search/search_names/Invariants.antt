use Rattle.taint_flow.specs.Found.{ByNames}
use Rattle.taint_flow.specs.Lowest.{Lowers}
use Rattle.taint_flow.proofs.search.search_names.Given as goal

abbrev pub invariant-loop-number : goal.invariant-loop-number
invariant-loop-number l = Lowers (ByNames l.graph l.plan l.split.sources l.named l.sources l.number) l.initial.least.sources.items l.least.sources.items
