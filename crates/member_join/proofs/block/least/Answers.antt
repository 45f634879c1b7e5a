use Rattle.std.proofs.Common.{sym, ◌∙◌}
use Rattle.member_join.proofs.Blocks.{not_below_itself, not_below_less}
use Rattle.member_join.proofs.block.least.Goals as goal

pub returns-then-is_less-clause-first : goal.returns-then-is_less-clause-first
returns-then-is_less-clause-first c = not_below_itself _

pub returns-then-is_less-clause-second : goal.returns-then-is_less-clause-second
returns-then-is_less-clause-second c nodes above = not_below_less _ _ nodes (sym c.is_less.ensures ∙ c.if-is_less.true) above

pub returns-clause-first : goal.returns-clause-first
returns-clause-first c = sym c.is_less.ensures ∙ c.if-is_less.false
