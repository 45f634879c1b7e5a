use Rattle.std.proofs.Common.{rules, ◌≡◌, ◌+◌, ap, sym, arith}
use Rattle.std.proofs.lemmas.Grind.{common_steps}
use Rattle.c_expr.specs.reader.Reading.{one, grafting}
use Rattle.c_items.specs.Table.{Declared}
use Rattle.c_items.specs.reader.Reading.{level}
use Rattle.c_items.proofs.Steps.{level_none}
use Rattle.c_items.proofs.Pieces.{grafted_there, grafted_nowhere, fails_too, declared_read, declared_unended, declared_fails}
use Rattle.c_items.proofs.declarations.declared.Goals as goal

pub returns-then-room-eq0-clause-gives : goal.returns-then-room-eq0-clause-gives
returns-then-room-eq0-clause-gives c = grafted_nowhere c.args.from c.args.base _ (level_none c.args.tokens.now c.args.room Declared c.args.at (grind (arith, c.if-room-eq0.true)))

pub returns-in_err-vars-clause-gives : goal.returns-in_err-vars-clause-gives
returns-in_err-vars-clause-gives c =
    let h : _ =
    fails_too one c.in_err-vars.field-0.0 _ (grafting c.args.from c.args.base (level c.args.tokens.now c.args.room Declared c.args.at)) c.in_err-vars.ensures.gives
    (λ none. grafted_nowhere c.args.from c.args.base _ (declared_fails c.args.tokens.now c.args.room c.args.at (grind (arith, c.if-room-eq0.false)) none))
    in
    search (rules, h)

pub returns-then-not-is-clause-gives : goal.returns-then-not-is-clause-gives
returns-then-not-is-clause-gives c =
    grafted_nowhere c.args.from c.args.base _ (declared_unended c.args.tokens.now c.args.room c.args.at c.in_ok-vars.close c.in_ok-vars.vars (grind (arith, c.if-room-eq0.false)) c.in_ok-vars.ensures.gives (sym c.if-not-is.ensures.test))

pub returns-clause-gives : goal.returns-clause-gives
returns-clause-gives c =
    grafted_there c.args.from c.args.base _ c.in_ok-part.part _ (c.in_ok-vars.close + 1)
    (declared_read c.args.tokens.now c.args.room c.args.at c.in_ok-vars.close c.in_ok-vars.vars (grind (arith, c.if-room-eq0.false)) c.in_ok-vars.ensures.gives (sym c.if-not-is.ensures.test))
    (grind (arith, c.in_ok-part.ensures, c.span_at-span.ensures, c.new-text.ensures))
