use Rattle.std.proofs.Common.{◌≡◌, sym, arith}
use Rattle.c_items.proofs.Pieces.{return_read}
use Rattle.c_items.proofs.statements.return_statement.Goals as goal

pub returns-clause-gives : goal.returns-clause-gives
returns-clause-gives c =
    return_read c.args.tokens.now c.args.room c.args.at c.in_ok-value.close _ c.or_absent-value.result c.in_ok-node_one.field-0 (grind (arith, c.if-room-eq0.false)) (sym c.if-not-is.ensures.test) c.in_ok-value.ensures.gives (sym c.if-not-is-2.ensures.test) (rw c.start_at.ensures at c.or_absent-value.ensures)
    c.in_ok-node_one.ensures
