use Rattle.std.proofs.Common.{refl, ap, ◌∙◌}
use Rattle.member_join.specs.Blocks.{IsHullOf}
use Rattle.member_join.proofs.Blocks.{each_more, each_all, hull_wider, hull_here}
use Rattle.member_join.proofs.block.hull_of.Goals as goal

pub loop-member-init : goal.loop-member-init
loop-member-init c = (refl, λ m k. elim k [ ])

pub loop-member-preserved : goal.loop-member-preserved
loop-member-preserved c =
    let h = c.loop-member.hull in
    let k = c.widened-hull.result in
    let e = c.widened-hull.ensures in
    let name = ap (λ n. n.now) e.name ∙ c.loop-member.invariant.0 in
    (name, each_more (IsHullOf h) (IsHullOf k) _ _ c.member-item.result c.loop-member-test.true c.member-item.is (λ m is. hull_wider h k m e.name e.same is) (hull_here k _ c.member-item.result _ name c.in_ok-held-2.ensures e.more) c.loop-member.invariant.1)

pub returns : goal.returns
returns c = each_all (IsHullOf c.loop-member.hull) (IsHullOf c.loop-member.hull) _ _ c.loop-member-test.false c.loop-member.invariant.1
