use Rattle.std.proofs.Common.{◌∙◌, sym}
use Rattle.quieting.proofs.Keys.{quiet_all, quiet_named}
use Rattle.quieting.proofs.line.is_quiet.Goals as goal

pub returns-then-contains : goal.returns-then-contains
returns-then-contains c = λ quiets just. quiet_all quiets c.args.lines.now c.args.line c.args.id just (sym c.contains.ensures ∙ c.if-contains.true)

pub returns : goal.returns
returns c = λ quiets just. c.contains-2.ensures ∙ quiet_named quiets c.args.lines.now c.args.line c.args.id just (sym c.contains.ensures ∙ c.if-contains.false)
