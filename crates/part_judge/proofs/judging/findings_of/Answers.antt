use Rattle.std.proofs.Common.{List, [], ◌∷◌, ◌++◌, sym, ap, ◌∙◌}
use Rattle.std.proofs.lemmas.Option.{get_or_from_slice_get, slice_get_within}
use Rattle.meta_bind.specs.declared.finding.Finding.{Finding}
use Rattle.part_judge.specs.Findings.{finding_of}
use Rattle.part_judge.proofs.Mapped.{one_mapped}
use Rattle.part_judge.proofs.judging.findings_of.Goals as goal

pub loop-at-preserved : goal.loop-at-preserved
loop-at-preserved c =
    let members = c.args.members.now in
    let member = c.in-Some.member.now in
    let there = sym c.in-Some.ensures in
    c.in_ok-push.ensures.ok ∙ ap (λ (f : Finding). c.loop-at.findings ++ f ∷ []) c.in_ok-finding_of.ensures
    ∙ ap (λ (l : List Finding). l ++ finding_of member ∷ []) c.loop-at.invariant
    ∙ one_mapped finding_of members c.loop-at.at member member (slice_get_within members c.loop-at.at member there) (sym (get_or_from_slice_get members c.loop-at.at member member there))
