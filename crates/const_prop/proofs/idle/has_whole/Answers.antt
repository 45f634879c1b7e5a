use Rattle.std.proofs.Common.{sym, refl, ◌∙◌}
use Rattle.assignments.specs.declared.assignment.Target.{Target}
use Rattle.assignments.specs.Seen.{Named, seen_target}
use Rattle.const_prop.specs.Idle.{is_whole}
use Rattle.const_prop.proofs.Idling.{any_copied, any_none, none_next}
use Rattle.const_prop.proofs.idle.has_whole.Goals as goal

pub loop-target-preserved : goal.loop-target-preserved
loop-target-preserved c = none_next (λ (t : Target). is_whole t.reach) c.args.targets.now c.loop-target.target-index _ c.loop-target-test.true c.loop-target.invariant (sym c.is_whole.ensures ∙ c.if-is_whole.false)

pub returns-then-is_whole : goal.returns-then-is_whole
returns-then-is_whole c = any_copied seen_target (λ (t : Named). is_whole t.reach) c.args.targets.now _ c.loop-target.target-index _ c.loop-target-test.true refl (sym c.is_whole.ensures ∙ c.if-is_whole.true)

pub returns : goal.returns
returns c = any_none seen_target (λ (t : Named). is_whole t.reach) c.args.targets.now _ c.loop-target.target-index c.loop-target-test.false refl c.loop-target.invariant
