use Rattle.std.proofs.Common.{◌≡◌, drop}
use Rattle.node_match.specs.Orders.{has_dots}
use Rattle.node_match.proofs.asked.has_dots.Given as goal

abbrev pub invariant-loop-pattern : goal.invariant-loop-pattern
invariant-loop-pattern l = has_dots l.patterns ≡ has_dots (drop l.pattern-index l.patterns)
