use Rattle.std.proofs.Common.{ℕ, ◌+◌, ◌-◌, ◌<◌, false, List, [], ◌∷◌, ◌++◌, length, drop, true, Option, None, Ok, Err, refl, sym, ap, subst, ◌∙◌, arith, length-drop}
use Rattle.std.specs.Borrow.{Bor}
use Rattle.std.proofs.lemmas.Result.{err_from_is_err_and}
use Rattle.yaml_lines.specs.Body.{texts}
use Rattle.yaml_lines.specs.Lines.{Gives, lines_at, value_of, go_on}
use Rattle.yaml_lines.specs.declared.line.YLine.{YLine}
use Rattle.yaml_lines.proofs.Reading.{with_lines, lines_skip, lines_start, lines_value, goes_on, drop_texts, short_below, slice_lines, gives_err, gives_same}
use Rattle.yaml_lines.proofs.Steps.{short_at}
use Rattle.yaml_lines.proofs.read.read_all.Goals as goal

abbrev none : Bor (List ℕ)
none = record { ref_ptr = (0, 0); now = [] }

pub loop-turn-preserved-then-is_skipped : goal.loop-turn-preserved-then-is_skipped
loop-turn-preserved-then-is_skipped c =
    let h : c.loop-turn.at < length c.args.all.now = omega (arith, c.loop-turn.invariant.within) in
    record {
      lines = c.loop-turn.invariant.lines ∙ ap (with_lines c.loop-turn.lines) (lines_skip c.args.all.now c.loop-turn.turn c.loop-turn.at c.loop-turn.fresh c.loop-turn.above none c.as_bytes-line.result.now c.loop-turn-test.true h c.as_bytes-line.ensures.value (sym c.if-is_skipped.ensures));
      within = omega arith;
      goes = omega (arith, c.loop-turn.invariant.goes);
    }

pub loop-turn-preserved-then-is_first_mark : goal.loop-turn-preserved-then-is_first_mark
loop-turn-preserved-then-is_first_mark c =
    let h : c.loop-turn.at < length c.args.all.now = omega (arith, c.loop-turn.invariant.within) in
    record {
      lines = c.loop-turn.invariant.lines ∙ ap (with_lines c.loop-turn.lines) (lines_start c.args.all.now c.loop-turn.turn c.loop-turn.at c.loop-turn.fresh c.loop-turn.above none c.as_bytes-line.result.now c.loop-turn-test.true h c.as_bytes-line.ensures.value (sym c.if-is_skipped.ensures) (sym c.if-is_first_mark.ensures));
      within = omega arith;
      goes = omega (arith, c.loop-turn.invariant.goes);
    }

pub read_value-requires-clause-short : goal.read_value-requires-clause-short
read_value-requires-clause-short c =
    let h : c.loop-turn.at < length c.args.all.now = omega (arith, c.loop-turn.invariant.within) in
    short_at c.args.all.now c.loop-turn.at none c.as_bytes-line.result.now h c.as_bytes-line.ensures.value c.requires

pub read_value-requires-clause-lines : goal.read_value-requires-clause-lines
read_value-requires-clause-lines c = short_below c.args.all.now (c.loop-turn.at + 1) c.requires

pub returns-in_err-value : goal.returns-in_err-value
returns-in_err-value c =
    let h : c.loop-turn.at < length c.args.all.now = omega (arith, c.loop-turn.invariant.within) in
    let p = err_from_is_err_and c.from_residual.result c.from_residual.ensures.1 in
    let rest = texts (drop (c.loop-turn.at + 1) c.args.all.now) in
    let wanted = value_of (c.loop-turn.at + 1) c.loop-turn.above c.as_bytes-line.result.now rest in
    let P : List (Bor (List ℕ)) → Type 0 = λ x. Gives (value_of (c.loop-turn.at + 1) c.loop-turn.above c.as_bytes-line.result.now (texts x)) (Err c.in_err-value.field-0.0) in
    let value = subst P (slice_lines c.args.all.now (c.loop-turn.at + 1)) c.in_err-value.ensures.value in
    let e = c.loop-turn.invariant.lines ∙ ap (with_lines c.loop-turn.lines) (lines_value c.args.all.now c.loop-turn.turn c.loop-turn.at c.loop-turn.fresh c.loop-turn.above none c.as_bytes-line.result.now wanted c.loop-turn-test.true h c.as_bytes-line.ensures.value (sym c.if-is_skipped.ensures) (sym c.if-is_first_mark.ensures) refl) in
    let read = λ (n : ℕ) (holder : Option ℕ) (ls : List (List ℕ)). lines_at (length c.args.all.now - (c.loop-turn.turn + 1)) n false holder ls in
    let g = gives_err c.loop-turn.lines read (c.loop-turn.at + 1) rest wanted c.in_err-value.field-0.0 value in
    let all = lines_at (length c.args.all.now) 0 true None (texts c.args.all.now) in
    rw (p.1, p.2) (gives_same all (with_lines c.loop-turn.lines (go_on read (c.loop-turn.at + 1) rest wanted)) (Err c.in_err-value.field-0.0) e g)

pub loop-turn-preserved : goal.loop-turn-preserved
loop-turn-preserved c =
    let h : c.loop-turn.at < length c.args.all.now = omega (arith, c.loop-turn.invariant.within) in
    let rest = texts (drop (c.loop-turn.at + 1) c.args.all.now) in
    let value = rw (slice_lines c.args.all.now (c.loop-turn.at + 1)) at c.in_ok-value.ensures.value in
    let e = c.loop-turn.invariant.lines ∙ ap (with_lines c.loop-turn.lines) (lines_value c.args.all.now c.loop-turn.turn c.loop-turn.at c.loop-turn.fresh c.loop-turn.above none c.as_bytes-line.result.now (Ok c.in_ok-value.value) c.loop-turn-test.true h c.as_bytes-line.ensures.value (sym c.if-is_skipped.ensures) (sym c.if-is_first_mark.ensures) value) in
    let read = λ (n : ℕ) (holder : Option ℕ) (ls : List (List ℕ)). lines_at (length c.args.all.now - (c.loop-turn.turn + 1)) n false holder ls in
    let g = goes_on c.loop-turn.lines read (c.loop-turn.at + 1) rest c.in_ok-value.value in
    let d = ap (λ (x : List (List ℕ)). with_lines (c.loop-turn.lines ++ (c.in_ok-value.value.line ∷ [])) (read (c.loop-turn.at + 1 + c.in_ok-value.value.len) c.in_ok-value.value.holder x)) (drop_texts c.args.all.now (c.loop-turn.at + 1) c.in_ok-value.value.len) in
    record {
      lines = e ∙ g ∙ d ∙ ap (λ (x : List YLine). with_lines x (read (c.loop-turn.at + 1 + c.in_ok-value.value.len) c.in_ok-value.value.holder (texts (drop (c.loop-turn.at + 1 + c.in_ok-value.value.len) c.args.all.now)))) (sym c.in_ok-push.ensures.ok);
      within = omega (arith, c.in_ok-value.ensures.within, ap length (slice_lines c.args.all.now (c.loop-turn.at + 1)), length-drop (c.loop-turn.at + 1) c.args.all.now);
      goes = omega (arith, c.loop-turn.invariant.goes);
    }
