use Rattle.std.proofs.Common.{◌∙◌, sym, arith}
use Rattle.quieting.proofs.Keys.{this_line, line_before, first_line}
use Rattle.quieting.proofs.line.is_quieted.Goals as goal

pub returns-then-is_quiet : goal.returns-then-is_quiet
returns-then-is_quiet c = λ quiets just. this_line quiets c.args.line c.args.id.now (sym (c.is_quiet.ensures quiets just) ∙ c.if-is_quiet.true)

pub returns-then-line-eq0 : goal.returns-then-line-eq0
returns-then-line-eq0 c = λ quiets just. sym c.if-is_quiet.false ∙ c.is_quiet.ensures quiets just ∙ first_line quiets c.args.line c.args.id.now c.if-line-eq0.true

pub returns : goal.returns
returns c = λ quiets just. c.is_quiet-2.ensures quiets just ∙ line_before quiets c.args.line c.args.id.now (omega arith) (sym (c.is_quiet.ensures quiets just) ∙ c.if-is_quiet.false)
