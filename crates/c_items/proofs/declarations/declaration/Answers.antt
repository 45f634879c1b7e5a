use Rattle.std.proofs.Common.{◌≡◌, arith}
use Rattle.c_items.proofs.Pieces.{declaration_on}
use Rattle.c_items.proofs.declarations.declaration.Goals as goal

pub returns-clause-gives : goal.returns-clause-gives
returns-clause-gives c = rw (declaration_on c.args.tokens.now c.args.room c.args.at c.in_ok-base.end c.in_ok-base.base (grind (arith, c.if-room-eq0.false)) c.in_ok-base.ensures.gives) (rw c.start_at.ensures at c.declared.ensures.gives)
