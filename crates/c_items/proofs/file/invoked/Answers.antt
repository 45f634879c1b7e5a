use Rattle.std.proofs.Common.{rules, ◌≡◌, sym, arith}
use Rattle.std.proofs.lemmas.Grind.{common_steps}
use Rattle.c_expr.specs.reader.Reading.{one}
use Rattle.c_items.specs.Table.{Invoked}
use Rattle.c_items.specs.reader.Reading.{level}
use Rattle.c_items.proofs.Pieces.{fails_too, invoked_read, invoked_unclosed, invoked_fails}
use Rattle.c_items.proofs.file.invoked.Goals as goal

pub returns-in_err-args-clause-gives : goal.returns-in_err-args-clause-gives
returns-in_err-args-clause-gives c =
    let h : _ = fails_too one c.in_err-args.field-0.0 _ (level c.args.tokens.now c.args.room Invoked c.args.at) c.in_err-args.ensures.gives (invoked_fails c.args.tokens.now c.args.room c.args.at (grind (arith, c.if-room-eq0.false)) (sym c.if-not-invokes.ensures.test)) in
    search (rules, h)

pub returns-then-not-is-clause-gives : goal.returns-then-not-is-clause-gives
returns-then-not-is-clause-gives c = invoked_unclosed c.args.tokens.now c.args.room c.args.at (grind (arith, c.if-room-eq0.false)) (sym c.if-not-invokes.ensures.test) c.in_ok-args.close c.in_ok-args.args c.in_ok-args.ensures.gives (sym c.if-not-is.ensures.test)

pub returns-clause-gives : goal.returns-clause-gives
returns-clause-gives c =
    invoked_read c.args.tokens.now c.args.room c.args.at (grind (arith, c.if-room-eq0.false)) (sym c.if-not-invokes.ensures.test) c.in_ok-args.close c.in_ok-args.args c.in_ok-part.part c.in_ok-args.ensures.gives (sym c.if-not-is.ensures.test)
    (grind (arith, c.in_ok-part.ensures, c.in_ok-name.ensures, c.span_at-span.ensures, c.start_at-from.ensures, c.new-text.ensures))
