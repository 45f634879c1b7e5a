use Rattle.std.proofs.Common.{◌≡◌, sym, ◌∙◌, ap}
use Rattle.c_items.proofs.Pieces.{maybe_absent}
use Rattle.c_items.proofs.parts.maybe_expression.Goals as goal

pub returns-then-not-starts_expression-clause-gives : goal.returns-then-not-starts_expression-clause-gives
returns-then-not-starts_expression-clause-gives c = maybe_absent c.args.tokens.now c.args.room c.args.at c.absent.result (sym c.if-not-starts_expression.ensures) (rw c.start_at.ensures at c.absent.ensures)
