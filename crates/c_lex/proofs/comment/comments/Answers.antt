use Rattle.std.proofs.Common.{◌≡◌, ℕ, ◌-◌, true, List, length, ap, sym, ◌∙◌, subst, arith, length-append, refl}
use Rattle.std.specs.Prelude.{Option, None, Result, Err}
use Rattle.std.specs.Str.{chars}
use Rattle.std.proofs.lemmas.List.{append-nil}
use Rattle.std.proofs.lemmas.Result.{err_from_is_err_and}
use Rattle.lexing.specs.Reading.{Turn}
use Rattle.lexing.specs.Mark.{past_mark, mark_len}
use Rattle.lexing.proofs.Languages.{IsAt, begins, turned, barred, none_left, given, only}
use Rattle.node_tree.specs.declared.span.Span.{Span}
use Rattle.node_tree.specs.declared.fault.LexFault.{LexFault}
use Rattle.node_tree.specs.declared.fault.LexFault.TheVariants.{Memory, NoTokens}
use Rattle.node_tree.specs.declared.view.Mode.TheVariants.{Text}
use Rattle.c_lex.specs.Lexing.{first, Turns, Gives, IsTokensOf}
use Rattle.c_lex.specs.Comments.{comment_language}
use Rattle.c_lex.specs.declared.progress.Progress.{Progress}
use Rattle.c_lex.specs.declared.token.CToken.{CToken}
use Rattle.c_lex.proofs.Noting.{AreNoted, noted_are, are_noted, tokens_noted, comments_lie}
use Rattle.c_lex.proofs.comment.comments.Goals as goal

pub lexemes-init : goal.lexemes-init
lexemes-init c =
    let text = c.args.text.now in
    let rest = c.without_mark-rest.result.now in
    let read = c.without_mark-rest.ensures in
    let at : mark_len (chars text) ≡ length text - length rest = omega (arith, read.len) in
    record {
      place = omega (arith, read.len);
      read = subst (λ (n : ℕ). IsAt comment_language (first (chars text)) (past_mark (chars text)) c.new-found.result (record { at = n; fresh = true }) rest) at
          (begins comment_language (first (chars text)) (past_mark (chars text)) rest c.new-found.result c.without_mark-rest.utf8 read.chars c.new-found.ensures);
    }

-- no text without comments has tokens
no_tokens : (text : List ℕ) → ((ss : List Span) → AreNoted text ss → ⊥) → (ts : List CToken) → IsTokensOf Text text ts → ⊥
no_tokens text none ts is = let k = tokens_noted text ts is in none k.0 k.1

pub returns-in_default-clause-only : goal.returns-in_default-clause-only
returns-in_default-clause-only c = λ ss is. none_left c.lexemes.invariant.read c.lexemes-test.ensures (c.in_default.ensures.takes _ c.automaton.ensures) ss (are_noted c.args.text.now ss is)

pub returns-in_default-clause-refused : goal.returns-in_default-clause-refused
returns-in_default-clause-refused c = λ e. no_tokens c.args.text.now (none_left c.lexemes.invariant.read c.lexemes-test.ensures (c.in_default.ensures.takes _ c.automaton.ensures))

-- a step that failed, where it fails for want of memory or the text has no tokens
failed : (turn : Option (Turn Progress Span)) (old new ss : List Span) (p : Progress) (e : LexFault) → (turn ≡ None → ⊥) → Turns turn old new p (Err e) → Gives ss (Err e)
failed turn old new ss p Memory none f = tt
failed turn old new ss p NoTokens none f = none f

pub returns-in_err-note-clause-only : goal.returns-in_err-note-clause-only
returns-in_err-note-clause-only c = λ ss is.
    let p = c.in-Some.ensures.takes _ c.automaton.ensures in
    let r = err_from_is_err_and c.from_residual.result c.from_residual.ensures.1 in
    rw (r.1, r.2) (failed _ c.lexemes.found c.note.new.comments ss c.note.new.progress c.in_err-note.field-0.0 (λ none. barred c.lexemes.invariant.read c.lexemes-test.ensures p none ss (are_noted c.args.text.now ss is)) c.in_err-note.ensures.turns)

-- the same of its own answer
refused : {T : Type 0} (turn : Option (Turn Progress Span)) (old new : List Span) (p : Progress) (e : LexFault) (ts : List CToken) (X : List CToken → Type 0) → (turn ≡ None → (us : List CToken) → X us → ⊥) → Turns turn old new p (Err e) → ◌≡◌ {A = Result (List T) LexFault} (Err e) (Err NoTokens) → X ts → ⊥
refused turn old new p Memory ts X none f eq = absurd cc
refused turn old new p NoTokens ts X none f eq = none f ts

pub returns-in_err-note-clause-refused : goal.returns-in_err-note-clause-refused
returns-in_err-note-clause-refused c = λ eq ts is.
    let p = c.in-Some.ensures.takes _ c.automaton.ensures in
    let r = err_from_is_err_and c.from_residual.result c.from_residual.ensures.1 in
    refused _ c.lexemes.found c.note.new.comments c.note.new.progress c.in_err-note.field-0.0 ts (IsTokensOf Text c.args.text.now) (λ none. no_tokens c.args.text.now (barred c.lexemes.invariant.read c.lexemes-test.ensures p none)) c.in_err-note.ensures.turns (sym (r.1 ∙ ap Err r.2) ∙ eq) is

pub lexemes-preserved : goal.lexemes-preserved
lexemes-preserved c =
    let p = c.in-Some.ensures.takes _ c.automaton.ensures in
    let k = c.in_ok-note.ensures.turns in
    record {
      place = omega (arith, ap length p.parts, length-append c.in-Some.piece.text.now c.in-Some.piece.rest.now, c.lexemes.invariant.place, c.in_ok-note.ensures.at);
      read = turned c.lexemes.invariant.read c.lexemes-test.ensures p c.in-Some.ensures.utf8.1 k.1 k.2;
    }

-- what was found, with the nothing that the end gives
pub returns-clause-given : goal.returns-clause-given
returns-clause-given c = noted_are c.args.text.now c.lexemes.found (given c.lexemes.invariant.read c.lexemes-test.ensures refl (sym (append-nil c.lexemes.found)))

pub returns-clause-placed : goal.returns-clause-placed
returns-clause-placed c = comments_lie c.args.text.now c.lexemes.found c.utf8.text (noted_are c.args.text.now c.lexemes.found (given c.lexemes.invariant.read c.lexemes-test.ensures refl (sym (append-nil c.lexemes.found))))

pub returns-clause-only : goal.returns-clause-only
returns-clause-only c = λ ss is. only c.lexemes.invariant.read c.lexemes-test.ensures refl (sym (append-nil c.lexemes.found)) ss (are_noted c.args.text.now ss is)
