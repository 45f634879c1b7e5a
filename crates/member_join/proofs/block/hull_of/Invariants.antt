use Rattle.std.proofs.Common.{◌≡◌, take}
use Rattle.member_join.specs.Blocks.{IsHullOf}
use Rattle.sorted_sets.specs.Sizes.{Each}
use Rattle.member_join.proofs.block.hull_of.Given as goal

abbrev pub invariant-loop-member : goal.invariant-loop-member
invariant-loop-member l = (l.hull.name.now ≡ l.name) × Each (IsHullOf l.hull) (take l.member-index l.members)
