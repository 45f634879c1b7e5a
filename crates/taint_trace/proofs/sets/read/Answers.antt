use Rattle.std.proofs.Common.{subst}
use Rattle.std.specs.Prelude.{None, Some}
use Rattle.taint_judge.specs.declared.fault.FollowFault.{FollowFault}
use Rattle.taint_judge.specs.Lists.{OverRule, IsCrowdedBy}
use Rattle.taint_judge.proofs.Once.{rule_one}
use Rattle.taint_trace.proofs.sets.read.Goals as goal

pub unreachable-requires : goal.unreachable-requires
unreachable-requires c =
    let over = OverRule c.args.leaves.now c.args.rx.now c.args.view.now.bytes c.args.rule.now in
    let Crowded : FollowFault → Type 0 = IsCrowdedBy over in
    let crowded = subst Crowded c.in-Err-Crowded.field-0-is c.in-Err-Crowded.ensures.crowded in
    let same = rule_one c.args.leaves.now c.args.rx.now c.args.view.now.bytes c.args.rule.now None (Some (c.in-Err-Crowded.field-0-0, c.in-Err-Crowded.field-0-1)) c.requires.few crowded in
    absurd cc
