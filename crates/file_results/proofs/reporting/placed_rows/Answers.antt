use Rattle.std.proofs.Common.{◌+◌, ◌++◌, ◌∷◌, [], refl, sym, ap, ◌∙◌, subst, drop}
use Rattle.std.specs.Prelude.{slice_get}
use Rattle.std.proofs.lemmas.List.{drop_all}
use Rattle.meta_bind.specs.declared.finding.Finding.{Finding}
use Rattle.meta_bind.proofs.Lookups.{opened}
use Rattle.taint_judge.specs.Placed.{IsFindingPlaced}
use Rattle.node_match.proofs.Sets.{among_at}
use Rattle.report_form.specs.declared.report.Reported.{Reported}
use Rattle.file_results.specs.Reports.{reported}
use Rattle.file_results.proofs.Hits.{reports_start, reports_on, reports_end}
use Rattle.file_results.proofs.reporting.placed_rows.Goals as goal

pub loop-row-init : goal.loop-row-init
loop-row-init c = let hs = c.args.rows.now in reports_start c.args.path.now c.args.view.now.bytes c.args.running.now hs (drop 0 hs) c.new-results.result c.new-results.ensures refl

pub rule_at-rule-requires : goal.rule_at-rule-requires
rule_at-rule-requires c =
    let r = c.requires.numbered c.row-item.result (among_at c.args.rows.now c.loop-row.row-index c.row-item.result c.loop-row-test.true c.row-item.is) in
    (r.0, ap (slice_get c.args.running.now) c.number.ensures ∙ r.1)

pub reported-requires-clause-places : goal.reported-requires-clause-places
reported-requires-clause-places c = c.in_ok-places.ensures ∙ c.as_slice.ensures

pub reported-requires-clause-placed : goal.reported-requires-clause-placed
reported-requires-clause-placed c =
    let P : Finding → Type 0 = λ f. IsFindingPlaced c.args.view.now.bytes f in
    subst P (sym c.finding.ensures) (c.requires.placed c.row-item.result (among_at c.args.rows.now c.loop-row.row-index c.row-item.result c.loop-row-test.true c.row-item.is))

pub loop-row-preserved : goal.loop-row-preserved
loop-row-preserved c =
    let i = c.loop-row.row-index in
    let hs = c.args.rows.now in
    let h = c.row-item.result in
    let path = c.args.path.now in
    let text = c.args.view.now.bytes in
    let rule = c.rule_at-rule.result.now in
    let old = c.loop-row.results in
    let at = ap (slice_get c.args.running.now) (sym c.number.ensures) ∙ c.rule_at-rule.ensures in
    let is = ap (λ (r : Reported). old ++ r ∷ []) c.in_ok-reported.ensures ∙ ap (λ (f : Finding). old ++ reported path text rule f ∷ []) c.finding.ensures in
    reports_on path text c.args.running.now hs old c.push.new.self (drop i hs) (drop (i + 1) hs) h rule c.loop-row.invariant (opened hs i h c.loop-row-test.true c.row-item.is) at (c.in_ok-push.ensures.ok ∙ is)

pub returns : goal.returns
returns c = let hs = c.args.rows.now in reports_end c.args.path.now c.args.view.now.bytes c.args.running.now hs c.loop-row.results (drop c.loop-row.row-index hs) c.loop-row.invariant (drop_all c.loop-row.row-index hs c.loop-row-test.false)
