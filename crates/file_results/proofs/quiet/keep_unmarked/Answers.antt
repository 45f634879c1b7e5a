use Rattle.std.proofs.Common.{◌+◌, ◌++◌, List, false, get_or, drop, reverse, ap, ◌∙◌}
use Rattle.report_form.specs.declared.report.Reported.{Reported}
use Rattle.file_results.specs.Quieted.{unmarked}
use Rattle.file_results.proofs.Quieted.{mark_opened, none_left, kept_on, dropped_on}
use Rattle.file_results.proofs.quiet.keep_unmarked.Goals.{then-not-mark+in_ok-push, else-not-mark}
use Rattle.file_results.proofs.quiet.keep_unmarked.Goals as goal

pub returns-in_default : goal.returns-in_default
returns-in_default c =
    let ms = c.args.marks.now in
    none_left c.loop-mark.kept c.loop-mark.found (unmarked ms c.args.found) (drop c.loop-mark.mark-index ms) c.loop-mark.invariant c.in_default.ensures.0

pub loop-mark-preserved : goal.loop-mark-preserved
loop-mark-preserved c =
    let ms = c.args.marks.now in
    let i = c.loop-mark.mark-index in
    let old = c.loop-mark.found in
    let new = c.pop.new.self in
    let kept = c.loop-mark.kept in
    let whole = unmarked ms c.args.found in
    let one = c.in-Some.one in
    let opens = mark_opened ms i c.loop-mark-test.true in
    elim c.if-not-mark.branch [
      | then-not-mark+in_ok-push w ↦ kept_on kept old whole (drop i ms) (drop (i + 1) ms) (get_or ms i false) opens c.loop-mark.invariant new one c.in-Some.ensures c.if-not-mark.kept w.if-not-mark.true (w.kept-is ∙ w.in_ok-push.ensures.ok)
      | else-not-mark w ↦ ap (λ (rs : List Reported). rs ++ unmarked (drop (i + 1) ms) (reverse new)) w.kept-is ∙ dropped_on kept old whole (drop i ms) (drop (i + 1) ms) (get_or ms i false) opens c.loop-mark.invariant new one c.in-Some.ensures w.if-not-mark.false
    ]
