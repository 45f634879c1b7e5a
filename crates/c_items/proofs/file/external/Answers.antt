use Rattle.std.proofs.Common.{◌≡◌, sym, arith}
use Rattle.c_items.proofs.Pieces.{external_function, external_declared}
use Rattle.c_items.proofs.file.external.Goals as goal

pub returns-then-defines-clause-gives : goal.returns-then-defines-clause-gives
returns-then-defines-clause-gives c = rw (external_function c.args.tokens.now c.args.room c.args.at c.in_ok-base.end c.in_ok-base.base (grind (arith, c.if-room-eq0.false)) c.in_ok-base.ensures.gives (sym c.if-defines.ensures)) (rw c.start_at-from.ensures at c.function.ensures.gives)

pub returns-clause-gives : goal.returns-clause-gives
returns-clause-gives c = rw (external_declared c.args.tokens.now c.args.room c.args.at c.in_ok-base.end c.in_ok-base.base (grind (arith, c.if-room-eq0.false)) c.in_ok-base.ensures.gives (sym c.if-defines.ensures)) (rw c.start_at-from.ensures at c.declared.ensures.gives)
