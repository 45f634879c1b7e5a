use Rattle.std.proofs.Common.{rules, ◌≡◌, arith}
use Rattle.c_expr.specs.reader.Reading.{one, grafting}
use Rattle.c_items.specs.Table.{Function}
use Rattle.c_items.specs.reader.Reading.{level}
use Rattle.c_items.proofs.Steps.{level_none}
use Rattle.c_items.proofs.Pieces.{grafted_there, grafted_nowhere, fails_too, function_read, function_unnamed, function_fails}
use Rattle.c_items.proofs.file.function.Goals as goal

pub returns-then-room-eq0-clause-gives : goal.returns-then-room-eq0-clause-gives
returns-then-room-eq0-clause-gives c = grafted_nowhere c.args.from c.args.base _ (level_none c.args.tokens.now c.args.room Function c.args.at (grind (arith, c.if-room-eq0.true)))

pub returns-in_err-name-clause-gives : goal.returns-in_err-name-clause-gives
returns-in_err-name-clause-gives c =
    let h : _ =
    fails_too one c.in_err-name.field-0.0 _ (grafting c.args.from c.args.base (level c.args.tokens.now c.args.room Function c.args.at)) c.in_err-name.ensures.gives
    (λ none. grafted_nowhere c.args.from c.args.base _ (function_unnamed c.args.tokens.now c.args.room c.args.at (grind (arith, c.if-room-eq0.false)) none))
    in
    search (rules, h)

pub returns-in_err-body-clause-gives : goal.returns-in_err-body-clause-gives
returns-in_err-body-clause-gives c =
    let h : _ =
    fails_too one c.in_err-body.field-0.0 _ (grafting c.args.from c.args.base (level c.args.tokens.now c.args.room Function c.args.at)) c.in_err-body.ensures.gives
    (λ none. grafted_nowhere c.args.from c.args.base _ (function_fails c.args.tokens.now c.args.room c.args.at c.in_ok-name.end c.in_ok-name.name (grind (arith, c.if-room-eq0.false)) c.in_ok-name.ensures.gives none))
    in
    search (rules, h)

pub returns-clause-gives : goal.returns-clause-gives
returns-clause-gives c =
    grafted_there c.args.from c.args.base _ c.in_ok-part.part _ c.in_ok-body.end
    (function_read c.args.tokens.now c.args.room c.args.at c.in_ok-name.end c.in_ok-body.end c.in_ok-name.name c.in_ok-body.body (grind (arith, c.if-room-eq0.false)) c.in_ok-name.ensures.gives c.in_ok-body.ensures.gives)
    (grind (arith, c.in_ok-part.ensures, c.span_at-span.ensures, c.new-text.ensures))
