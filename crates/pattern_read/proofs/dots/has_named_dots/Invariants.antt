use Rattle.std.proofs.Common.{◌≡◌, drop}
use Rattle.pattern_read.specs.Dots.{has_named_dots}
use Rattle.pattern_read.proofs.dots.has_named_dots.Given as goal

abbrev pub invariant-loop-kid : goal.invariant-loop-kid
invariant-loop-kid l = has_named_dots l.kids ≡ has_named_dots (drop l.kid-index l.kids)
