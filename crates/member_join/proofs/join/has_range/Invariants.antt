use Rattle.std.proofs.Common.{◌↔◌, drop}
use Rattle.member_join.specs.Joins.{HasRange}
use Rattle.member_join.proofs.join.has_range.Given as goal

abbrev pub invariant-loop-operand : goal.invariant-loop-operand
invariant-loop-operand l = HasRange l.operands l.range ↔ HasRange (drop l.operand-index l.operands) l.range
