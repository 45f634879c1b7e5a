use Rattle.std.proofs.Common.{sym}
use Rattle.member_join.specs.Choices.{range_of}
use Rattle.taint_judge.proofs.Gathering.{map_grown}
use Rattle.taint_judge.proofs.gather.add_ranges.Goals as goal

pub loop-at-preserved : goal.loop-at-preserved
loop-at-preserved c = map_grown c.args.members.now c.loop-at.at c.in-Some.member.now (sym c.in-Some.ensures) range_of c.args.ranges.now c.loop-at.ranges c.push.new.self c.loop-at.invariant c.in_ok-push.ensures.ok
