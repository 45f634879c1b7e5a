use Rattle.std.proofs.Common.{◌≡◌, [], ◌∷◌, ◌++◌, Some, true, false, sym, ap, ◌∙◌}
use Rattle.rule_form.specs.declared.rule.Rule.{Rule}
use Rattle.seen_files.proofs.More.{some_gone, step_same, step_new}
use Rattle.seen_files.proofs.more_rules.rules_added.Goals.{then-is_at, else-is_at+in_ok-expressions+in_ok-push}
use Rattle.seen_files.proofs.more_rules.rules_added.Goals as goal

pub loop-runner-preserved : goal.loop-runner-preserved
loop-runner-preserved c =
    let before = c.args.before.now in
    let running = c.args.running.now in
    let r = c.runner-item.result in
    elim c.if-is_at.branch [
      | then-is_at w ↦ step_same before running c.loop-runner.next c.if-is_at.next c.loop-runner.runner-index c.loop-runner.added c.if-is_at.added r r c.loop-runner-test.true c.runner-item.is c.loop-runner.invariant
          c.rule.result.now (c.is_at.ensures.0 w.if-is_at.true) c.rule.ensures w.next-is w.added-is
      | else-is_at+in_ok-expressions+in_ok-push w ↦ step_new before running c.loop-runner.next c.if-is_at.next c.loop-runner.runner-index c.loop-runner.added c.if-is_at.added r r c.loop-runner-test.true c.runner-item.is c.loop-runner.invariant
          (λ e. let found = c.is_at.ensures.1 (e ∙ ap (λ (x : Rule). Some x) (sym c.rule.ensures)) in absurd (let f : false ≡ true = sym w.if-is_at.false ∙ found in cc)) w.next-is (w.added-is ∙ w.in_ok-push.ensures.ok ∙ ap (λ (x : Rule). c.loop-runner.added ++ x ∷ []) (w.of.ensures ∙ w.rule-else-is_at.ensures))
    ]

pub returns-then-next-before-clause-exact : goal.returns-then-next-before-clause-exact
returns-then-next-before-clause-exact c = (
  λ e. absurd (let f : false ≡ true = e in cc),
  λ all. absurd (some_gone c.args.before.now c.args.running.now c.loop-runner.next c.loop-runner.runner-index c.loop-runner.added c.if-next-before.true c.loop-runner-test.false c.loop-runner.invariant all),
)
