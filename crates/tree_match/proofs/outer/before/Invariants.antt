use Rattle.std.proofs.Common.{◌≡◌, ◌∷◌, take}
use Rattle.tree_match.proofs.outer.before.Given as goal

abbrev pub invariant-loop-other : goal.invariant-loop-other
invariant-loop-other l = l.all ≡ l.first ∷ take l.other-index l.others
