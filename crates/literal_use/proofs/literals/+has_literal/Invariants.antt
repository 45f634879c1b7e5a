use Rattle.std.proofs.Common.{◌≡◌, drop}
use Rattle.node_match.specs.Orders.{some_is}
use Rattle.literal_use.specs.Literals.{has_literal}
use Rattle.literal_use.proofs.literals.+has_literal.Given as goal

abbrev pub invariant-loop-kid : goal.invariant-loop-kid
invariant-loop-kid l = some_is has_literal l.kid-items ≡ some_is has_literal (drop l.kid-index l.kid-items)
