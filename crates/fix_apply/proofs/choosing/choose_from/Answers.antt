use Rattle.std.proofs.Common.{◌≡◌, ◌+◌, ◌++◌, ◌∷◌, [], ◌∙◌, ℕ, List, true, false, refl, sym, ap, subst}
use Rattle.report_form.specs.declared.edit.Edit.{Edit}
use Rattle.fix_apply.proofs.Takings.{HasTaken, passed_on, taken_on, all_taken, taken_fit}
use Rattle.fix_apply.proofs.choosing.choose_from.Goals as goal

pub loop-reported-preserved-then-not-lies_behind : goal.loop-reported-preserved-then-not-lies_behind
loop-reported-preserved-then-not-lies_behind c =
    let r = c.reported-item.result in
    passed_on c.args.results.now c.loop-reported.reported-index c.loop-reported.edits c.loop-reported.end r c.in-Some.fix c.loop-reported-test.true c.reported-item.is c.in-Some.is
    (λ h. let is : false ≡ true = c.if-not-lies_behind.ensures.1 h in cc) c.loop-reported.invariant

pub loop-reported-preserved : goal.loop-reported-preserved
loop-reported-preserved c =
    let r = c.reported-item.result in
    let i = c.loop-reported.reported-index in
    let edits = c.loop-reported.edits in
    let behind = c.if-not-lies_behind.ensures.0 refl in
    let P : List Edit → Type 0 = λ es. HasTaken c.args.results.now (i + 1) es r.finding.span.to in
    let pushed = c.in_ok-push.ensures.ok ∙ ap (λ (text : List ℕ). edits ++ record { span = r.finding.span; text = text } ∷ []) c.in_ok-text.ensures in
    subst P (sym pushed)
    (taken_on c.args.results.now i edits c.loop-reported.end r c.in-Some.fix c.requires c.loop-reported-test.true c.reported-item.is c.in-Some.is behind.0 behind.1 c.loop-reported.invariant)

pub returns-clause-chosen : goal.returns-clause-chosen
returns-clause-chosen c = all_taken c.args.results.now c.loop-reported.reported-index c.loop-reported.edits c.loop-reported.end c.loop-reported-test.false c.loop-reported.invariant

pub returns-clause-fit : goal.returns-clause-fit
returns-clause-fit c = λ size ends. taken_fit c.args.results.now c.loop-reported.reported-index c.loop-reported.edits c.loop-reported.end size c.loop-reported.invariant ends
