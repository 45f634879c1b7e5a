use Rattle.std.proofs.Common.{drop}
use Rattle.rule_form.specs.declared.rule.Rule.{Rule}
use Rattle.file_results.specs.Needing.{PartsUse}
use Rattle.file_results.proofs.Somes.{NoneBefore}
use Rattle.file_results.proofs.needing.rules_need.Given as goal

abbrev pub invariant-loop-runner : goal.invariant-loop-runner
invariant-loop-runner g l = NoneBefore (λ (r : Rule). PartsUse (g.F.MayHave.may l.file) l.lang r.parts) l.running (drop l.runner-index l.running)
