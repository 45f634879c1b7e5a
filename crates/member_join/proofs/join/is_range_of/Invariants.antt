use Rattle.std.proofs.Common.{◌↔◌, drop}
use Rattle.member_join.specs.Joins.{IsRangeOf}
use Rattle.member_join.proofs.join.is_range_of.Given as goal

abbrev pub invariant-loop-member : goal.invariant-loop-member
invariant-loop-member l = IsRangeOf l.members l.range ↔ IsRangeOf (drop l.member-index l.members) l.range
