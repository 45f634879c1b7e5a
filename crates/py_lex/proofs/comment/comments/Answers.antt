use Rattle.std.proofs.Common.{◌≡◌, ◌-◌, length, ap, sym, arith, length-append, List, []}
use Rattle.std.specs.Prelude.{None, Some, Err, option_map}
use Rattle.std.specs.Str.{chars}
use Rattle.std.proofs.lemmas.List.{append-nil}
use Rattle.std.proofs.lemmas.Result.{err_from_is_err_and}
use Rattle.lexing.specs.Mark.{mark_len}
use Rattle.node_tree.specs.declared.fault.LexFault.{LexFault}
use Rattle.node_tree.specs.declared.fault.LexFault.TheVariants.{Memory, NoTokens}
use Rattle.node_tree.specs.declared.span.Span.{Span}
use Rattle.py_lex.specs.Layout.{Ends}
use Rattle.py_lex.specs.Layout as layout
use Rattle.py_lex.specs.Lexing.{Gives}
use Rattle.py_lex.specs.declared.layout.Layout.{Layout}
use Rattle.py_lex.specs.declared.token.PyToken.{PyToken}
use Rattle.py_lex.proofs.PartedReading.{begins_first, turned, not_found, failed, given, only, unfinished}
use Rattle.py_lex.proofs.Commenting.{commented, quieted, given_comments, has_comments, comments_lie}
use Rattle.py_lex.proofs.comment.comments.Goals as goal

pub lexemes-init : goal.lexemes-init
lexemes-init c =
    let text = c.args.text.now in
    let rest = c.without_mark-rest.result.now in
    let read = c.without_mark-rest.ensures in
    let at : mark_len (chars text) ≡ length text - length rest = omega (arith, read.len) in
    rw c.first-layout.ensures (record {
      place = omega (arith, read.len);
      bounded = record { column = omega arith; depth = omega arith };
      read = begins_first _ commented (chars text) rest c.new-all.result _ c.without_mark-rest.utf8 read.chars c.new-all.ensures at;
    })

pub returns-in-Err-clause-only : goal.returns-in-Err-clause-only
returns-in-Err-clause-only c = λ l is. not_found c.in-Err.fault c.lexemes.invariant.read c.lexemes-test.ensures c.in-Err.ensures l (has_comments c.args.text.now c.utf8.text l is)

pub returns-in_err-note-clause-only : goal.returns-in_err-note-clause-only
returns-in_err-note-clause-only c = λ l is.
    let r = err_from_is_err_and c.from_residual.result c.from_residual.ensures.1 in
    rw (r.1, r.2) (failed c.note.new.layout c.note.new.all c.in_err-note.field-0.0 c.lexemes.invariant.read c.lexemes-test.ensures c.in-Ok.ensures c.in_err-note.ensures.turns l (has_comments c.args.text.now c.utf8.text l is))

pub lexemes-preserved : goal.lexemes-preserved
lexemes-preserved c =
    let found = c.in-Ok.ensures in
    let k = c.in_ok-note.ensures.turns in
    record {
      place = omega (arith, ap length found.whole, length-append c.in-Ok.found.text.now c.in-Ok.found.rest.now, c.lexemes.invariant.place, c.in_ok-note.ensures.moves);
      bounded = c.in_ok-note.ensures.bounded;
      read = turned c.lexemes.invariant.read c.lexemes-test.ensures found k.1 k.2;
    }

failed_end : (s : Layout) (old new : List PyToken) (l : List Span) (e : LexFault) → (option_map quieted (layout.finish s) ≡ None → ⊥) → Ends (layout.finish s) old new (Err e) → Gives l (Err e)
failed_end s old new l Memory none f = tt
failed_end s old new l NoTokens none f = none (ap (option_map quieted) f)

pub returns-in_err-finish-clause-only : goal.returns-in_err-finish-clause-only
returns-in_err-finish-clause-only c = λ l is.
    let r = err_from_is_err_and c.from_residual-in_err-finish.result c.from_residual-in_err-finish.ensures.1 in
    rw (r.1, r.2) (failed_end c.lexemes.layout c.new-last.result c.finish.new.all l c.in_err-finish.field-0.0 (λ none. unfinished c.lexemes.invariant.read c.lexemes-test.ensures none l (has_comments c.args.text.now c.utf8.text l is)) c.in_err-finish.ensures)

pub returns : goal.returns
returns c =
    let ends : option_map quieted (layout.finish c.lexemes.layout) ≡ Some [] = ap (option_map quieted) c.in_ok-finish.ensures.1 in
    let is = given_comments c.args.text.now c.utf8.text _ (given c.lexemes.invariant.read c.lexemes-test.ensures ends (sym (append-nil c.lexemes.all))) in
    record {
      given = is;
      placed = comments_lie c.args.text.now c.utf8.text _ is;
      only = λ l has. only c.lexemes.invariant.read c.lexemes-test.ensures ends (sym (append-nil c.lexemes.all)) l (has_comments c.args.text.now c.utf8.text l has);
    }
