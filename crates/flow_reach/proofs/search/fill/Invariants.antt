use Rattle.flow_reach.specs.Bits.{stride_of}
use Rattle.flow_reach.specs.Carried.{Pairs}
use Rattle.flow_reach.specs.Spread.{IsClosing}
use Rattle.flow_reach.specs.Worklist.{weight_of}
use Rattle.flow_reach.proofs.search.fill.Given as goal

abbrev pub decreases-loop-word : goal.decreases-loop-word
decreases-loop-word l = weight_of l.work

abbrev pub invariant-loop-word : goal.invariant-loop-word
invariant-loop-word l = IsClosing (Pairs l.begins) l.graph l.moves (stride_of l.moves.facts) l.work
