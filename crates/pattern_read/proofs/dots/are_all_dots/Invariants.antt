use Rattle.std.proofs.Common.{◌≡◌, drop}
use Rattle.pattern_read.specs.Dots.{are_all_dots}
use Rattle.pattern_read.proofs.dots.are_all_dots.Given as goal

abbrev pub invariant-loop-item : goal.invariant-loop-item
invariant-loop-item l = are_all_dots l.items ≡ are_all_dots (drop l.item-index l.items)
