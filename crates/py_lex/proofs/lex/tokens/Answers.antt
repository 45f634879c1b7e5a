use Rattle.std.proofs.Common.{◌≡◌, ◌-◌, length, ap, arith, length-append, List}
use Rattle.std.specs.Prelude.{Option, None, Err}
use Rattle.std.specs.Str.{chars}
use Rattle.std.proofs.lemmas.Result.{err_from_is_err_and}
use Rattle.lexing.specs.Mark.{mark_len}
use Rattle.node_tree.specs.declared.fault.LexFault.{LexFault}
use Rattle.node_tree.specs.declared.fault.LexFault.TheVariants.{Memory, NoTokens}
use Rattle.py_lex.specs.Layout.{Ends}
use Rattle.py_lex.specs.Lexing.{py_language, Gives}
use Rattle.py_lex.specs.declared.token.PyToken.{PyToken}
use Rattle.py_lex.proofs.PartedReading.{begins_first, turned, not_found, failed, given, only, unfinished}
use Rattle.py_lex.proofs.Placing.{placed}
use Rattle.py_lex.proofs.lex.tokens.Goals as goal

pub lexemes-init : goal.lexemes-init
lexemes-init c =
    let text = c.args.text.now in
    let rest = c.without_mark-rest.result.now in
    let read = c.without_mark-rest.ensures in
    let at : mark_len (chars text) ≡ length text - length rest = omega (arith, read.len) in
    rw c.first-layout.ensures (record {
      place = omega (arith, read.len);
      bounded = record { column = omega arith; depth = omega arith };
      read = begins_first _ (py_language c.args.mode) (chars text) rest c.new-all.result _ c.without_mark-rest.utf8 read.chars c.new-all.ensures at;
    })

pub returns-in-Err-clause-only : goal.returns-in-Err-clause-only
returns-in-Err-clause-only c = λ ts is. not_found c.in-Err.fault c.lexemes.invariant.read c.lexemes-test.ensures c.in-Err.ensures ts is

pub returns-in_err-step-clause-only : goal.returns-in_err-step-clause-only
returns-in_err-step-clause-only c = λ ts is.
    let r = err_from_is_err_and c.from_residual.result c.from_residual.ensures.1 in
    rw (r.1, r.2) (failed c.step.new.layout c.step.new.all c.in_err-step.field-0.0 c.lexemes.invariant.read c.lexemes-test.ensures c.in-Ok.ensures c.in_err-step.ensures.turns ts is)

pub lexemes-preserved : goal.lexemes-preserved
lexemes-preserved c =
    let found = c.in-Ok.ensures in
    let k = c.in_ok-step.ensures.turns in
    record {
      place = omega (arith, ap length found.whole, length-append c.in-Ok.found.text.now c.in-Ok.found.rest.now, c.lexemes.invariant.place, c.in_ok-step.ensures.moves);
      bounded = c.in_ok-step.ensures.bounded;
      read = turned c.lexemes.invariant.read c.lexemes-test.ensures found k.1 k.2;
    }

failed_end : (last : Option (List PyToken)) (old new ts : List PyToken) (e : LexFault) → (last ≡ None → ⊥) → Ends last old new (Err e) → Gives ts (Err e)
failed_end last old new ts Memory none f = tt
failed_end last old new ts NoTokens none f = none f

pub returns-in_err-finish-clause-only : goal.returns-in_err-finish-clause-only
returns-in_err-finish-clause-only c = λ ts is.
    let r = err_from_is_err_and c.from_residual-in_err-finish.result c.from_residual-in_err-finish.ensures.1 in
    rw (r.1, r.2) (failed_end _ c.lexemes.all c.finish.new.all ts c.in_err-finish.field-0.0 (λ none. unfinished c.lexemes.invariant.read c.lexemes-test.ensures none ts is) c.in_err-finish.ensures)

pub returns-clause-given : goal.returns-clause-given
returns-clause-given c = given c.lexemes.invariant.read c.lexemes-test.ensures c.in_ok-finish.ensures.1 c.in_ok-finish.ensures.2

pub returns-clause-only : goal.returns-clause-only
returns-clause-only c = only c.lexemes.invariant.read c.lexemes-test.ensures c.in_ok-finish.ensures.1 c.in_ok-finish.ensures.2

pub returns-clause-placed : goal.returns-clause-placed
returns-clause-placed c = placed c.args.mode c.args.text.now _ c.utf8.text (given c.lexemes.invariant.read c.lexemes-test.ensures c.in_ok-finish.ensures.1 c.in_ok-finish.ensures.2)
