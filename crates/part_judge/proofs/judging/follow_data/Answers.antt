use Rattle.std.proofs.Common.{refl, ◌∙◌}
use Rattle.part_judge.proofs.Outcomes.{outcome_placed, notice_placed}
use Rattle.part_judge.proofs.judging.follow_data.Goals as goal
use Rattle.part_judge.proofs.judging.follow_data.Goals.{in-Ok, in-Err-Crowded+in_ok-named-in-Err-Crowded, in-Err-TooLarge}

pub returns-clause-placed : goal.returns-clause-placed
returns-clause-placed c =
    let bytes = c.args.view.now.bytes in
    elim c.match-follow.branch [
      | in-Ok w ↦ outcome_placed bytes c.of.result _ (c.of.ensures ∙ w.outcome-is) w.in-Ok.ensures.placed
      | in-Err-Crowded+in_ok-named-in-Err-Crowded w ↦ notice_placed bytes c.of.result _ (c.of.ensures ∙ w.outcome-is) refl
      | in-Err-TooLarge w ↦ notice_placed bytes c.of.result _ (c.of.ensures ∙ w.outcome-is) refl
    ]
