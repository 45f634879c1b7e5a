use Rattle.quieting.proofs.Keys.{IdsOn}
use Rattle.quieting.proofs.line.add_ids.Given as goal

abbrev pub invariant-loop-id : goal.invariant-loop-id
invariant-loop-id l = IdsOn l.line l.ids l.id-index l.initial.lines l.lines
