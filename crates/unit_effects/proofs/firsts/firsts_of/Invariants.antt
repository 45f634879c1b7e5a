use Rattle.unit_effects.proofs.Marking.{AreLeftOrMarked}
use Rattle.unit_effects.proofs.firsts.firsts_of.Given as goal

abbrev pub invariant-loop-name : goal.invariant-loop-name
invariant-loop-name l = AreLeftOrMarked l.once.entries l.name-iterator l.firsts.items
