use Rattle.std.proofs.Common.{◌≡◌, ℕ, ◌-◌, length, ap, subst, arith, length-append, true, refl, List}
use Rattle.std.specs.Prelude.{Option, None, Err}
use Rattle.std.specs.Str.{chars}
use Rattle.std.proofs.lemmas.Result.{err_from_is_err_and}
use Rattle.lexing.specs.Reading.{Turn}
use Rattle.lexing.specs.Mark.{past_mark, mark_len}
use Rattle.lexing.proofs.Languages.{IsAt, begins, turned, barred, none_left, given, only}
use Rattle.node_tree.specs.declared.fault.LexFault.{LexFault}
use Rattle.node_tree.specs.declared.fault.LexFault.TheVariants.{Memory, NoTokens}
use Rattle.c_lex.specs.Lexing.{c_language, first, Turns, Gives}
use Rattle.c_lex.specs.declared.progress.Progress.{Progress}
use Rattle.c_lex.specs.declared.token.CToken.{CToken}
use Rattle.c_lex.proofs.Placing.{placed}
use Rattle.c_lex.proofs.lex.c_tokens.Goals as goal

pub lexemes-init : goal.lexemes-init
lexemes-init c =
    let text = c.args.text.now in
    let rest = c.without_mark-rest.result.now in
    let read = c.without_mark-rest.ensures in
    let at : mark_len (chars text) ≡ length text - length rest = omega (arith, read.len) in
    record {
      place = omega (arith, read.len);
      read = subst (λ (n : ℕ). IsAt (c_language c.args.mode) (first (chars text)) (past_mark (chars text)) c.new-tokens.result (record { at = n; fresh = true }) rest) at
          (begins (c_language c.args.mode) (first (chars text)) (past_mark (chars text)) rest c.new-tokens.result c.without_mark-rest.utf8 read.chars c.new-tokens.ensures);
    }

pub returns-in_default-clause-only : goal.returns-in_default-clause-only
returns-in_default-clause-only c = none_left c.lexemes.invariant.read c.lexemes-test.ensures (c.in_default.ensures.takes _ c.automaton.ensures)

-- a step that failed, where it fails for want of memory or the text has no tokens
failed : (turn : Option (Turn Progress CToken)) (old new ts : List CToken) (p : Progress) (e : LexFault) → (turn ≡ None → ⊥) → Turns turn old new p (Err e) → Gives ts (Err e)
failed turn old new ts p Memory none f = tt
failed turn old new ts p NoTokens none f = none f

pub returns-in_err-step-clause-only : goal.returns-in_err-step-clause-only
returns-in_err-step-clause-only c = λ ts is.
    let p = c.in-Some.ensures.takes _ c.automaton.ensures in
    let r = err_from_is_err_and c.from_residual.result c.from_residual.ensures.1 in
    rw (r.1, r.2) (failed _ c.lexemes.tokens c.step.new.tokens ts c.step.new.progress c.in_err-step.field-0.0 (λ none. barred c.lexemes.invariant.read c.lexemes-test.ensures p none ts is) c.in_err-step.ensures.turns)

pub lexemes-preserved : goal.lexemes-preserved
lexemes-preserved c =
    let p = c.in-Some.ensures.takes _ c.automaton.ensures in
    let k = c.in_ok-step.ensures.turns in
    record {
      place = omega (arith, ap length p.parts, length-append c.in-Some.piece.text.now c.in-Some.piece.rest.now, c.lexemes.invariant.place, c.in_ok-step.ensures.at);
      read = turned c.lexemes.invariant.read c.lexemes-test.ensures p c.in-Some.ensures.utf8.1 k.1 k.2;
    }

pub returns-clause-given : goal.returns-clause-given
returns-clause-given c = given c.lexemes.invariant.read c.lexemes-test.ensures refl c.in_ok-keep.ensures

pub returns-clause-only : goal.returns-clause-only
returns-clause-only c = only c.lexemes.invariant.read c.lexemes-test.ensures refl c.in_ok-keep.ensures

pub returns-clause-placed : goal.returns-clause-placed
returns-clause-placed c = placed c.args.mode c.args.text.now _ c.utf8.text (given c.lexemes.invariant.read c.lexemes-test.ensures refl c.in_ok-keep.ensures)
