use Rattle.fix_apply.proofs.Takings.{HasTaken}
use Rattle.fix_apply.proofs.choosing.choose_from.Given as goal

abbrev pub invariant-loop-reported : goal.invariant-loop-reported
invariant-loop-reported l = HasTaken l.results l.reported-index l.edits l.end
