use Rattle.std.proofs.Common.{◌∷◌, take, drop}
use Rattle.member_join.proofs.Reaching.{PlainGoing, InsideGoing}
use Rattle.member_join.proofs.choice.states_from.Given as goal

abbrev pub invariant-loop-i : goal.invariant-loop-i
invariant-loop-i l = PlainGoing (l.first ∷ l.rest) l.insides (l.first ∷ take l.i l.rest) (drop l.i l.rest) l.states.items

abbrev pub invariant-loop-operand : goal.invariant-loop-operand
invariant-loop-operand l = InsideGoing (l.first ∷ l.rest) l.insides (take l.operand-index l.insides) (drop l.operand-index l.insides) l.states.items
