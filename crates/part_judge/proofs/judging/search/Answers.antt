use Rattle.std.proofs.Common.{refl, ◌∙◌}
use Rattle.part_judge.proofs.Outcomes.{findings_placed, outcome_placed, notice_placed}
use Rattle.part_judge.proofs.judging.search.Goals as goal
use Rattle.part_judge.proofs.judging.search.Goals.{in-Ok+in_ok-findings_of-in-Ok, in-Err-Crowded+in_ok-dotted-in-Err-Crowded}

pub returns-clause-placed : goal.returns-clause-placed
returns-clause-placed c =
    let bytes = c.args.view.now.bytes in
    elim c.match-eval.branch [
      | in-Ok+in_ok-findings_of-in-Ok w ↦ outcome_placed bytes c.of.result _ (c.of.ensures ∙ w.outcome-is) (findings_placed bytes _ _ w.in_ok-findings_of-in-Ok.ensures w.in-Ok.ensures.placed)
      | in-Err-Crowded+in_ok-dotted-in-Err-Crowded w ↦ notice_placed bytes c.of.result _ (c.of.ensures ∙ w.outcome-is) refl
    ]
