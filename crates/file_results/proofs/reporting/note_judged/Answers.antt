use Rattle.std.proofs.Common.{◌+◌, ◌++◌, ℕ, List, sym, ap, ◌∙◌, drop}
use Rattle.std.specs.Prelude.{Option}
use Rattle.std.proofs.lemmas.List.{drop_all}
use Rattle.meta_bind.proofs.Lookups.{opened}
use Rattle.rule_form.specs.declared.rule.Rule.{Rule}
use Rattle.node_match.proofs.Sets.{among_at}
use Rattle.file_results.specs.Reports.{outcome_notices}
use Rattle.file_results.specs.Judging.{judged_notices, notices_by}
use Rattle.running_rules.proofs.Members.{flat_step, flat_end}
use Rattle.file_results.proofs.reporting.note_judged.Goals as goal

pub rule_at-requires : goal.rule_at-requires
rule_at-requires c = c.requires c.one-item.result (among_at c.args.judged.now c.loop-one.one-index c.one-item.result c.loop-one-test.true c.one-item.is)

pub loop-one-preserved : goal.loop-one-preserved
loop-one-preserved c =
    let i = c.loop-one.one-index in
    let js = c.args.judged.now in
    let j = c.one-item.result in
    let old = c.loop-one.notices.items in
    let path = c.args.path.now in
    let is = ap (λ (id : List ℕ). old ++ outcome_notices path id j.found) c.as_str-id.ensures ∙ ap (λ (o : Option Rule). old ++ notices_by path j.found o) (sym c.rule_at.ensures) in
    flat_step (judged_notices path c.args.running.now) old c.note_found.new.notices.items j (drop i js) (drop (i + 1) js) _ c.loop-one.invariant (opened js i j c.loop-one-test.true c.one-item.is) (c.in_ok-note_found.ensures ∙ is)

pub returns : goal.returns
returns c = let js = c.args.judged.now in flat_end (judged_notices c.args.path.now c.args.running.now) c.loop-one.notices.items (drop c.loop-one.one-index js) _ c.loop-one.invariant (drop_all c.loop-one.one-index js c.loop-one-test.false)
