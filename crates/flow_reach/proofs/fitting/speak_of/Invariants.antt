use Rattle.std.proofs.Common.{take}
use Rattle.flow_reach.specs.Fitting.{SpeakOf}
use Rattle.flow_reach.proofs.fitting.speak_of.Given as goal

abbrev pub invariant-loop-row : goal.invariant-loop-row
invariant-loop-row l = SpeakOf l.facts (take l.row-index l.rows)
