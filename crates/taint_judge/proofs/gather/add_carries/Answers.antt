use Rattle.std.proofs.Common.{sym}
use Rattle.taint_judge.specs.Carries.{carry_at}
use Rattle.taint_judge.proofs.Gathering.{flat_grown}
use Rattle.taint_judge.proofs.gather.add_carries.Goals as goal

pub loop-at-preserved : goal.loop-at-preserved
loop-at-preserved c =
    flat_grown c.args.members.now c.loop-at.at c.in-Some.member.now (sym c.in-Some.ensures) (carry_at c.args.propagator.now) c.args.carries.now c.loop-at.carries c.add_carry.new.carries c.loop-at.invariant c.in_ok-add_carry.ensures
