use Rattle.rule_map.proofs.Places.{Goes}
use Rattle.rule_map.proofs.place.place_of.Given as goal

abbrev pub invariant-loop-at : goal.invariant-loop-at
invariant-loop-at l = Goes l.name l.texts l.at
