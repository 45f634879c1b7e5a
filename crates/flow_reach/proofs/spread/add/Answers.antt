use Rattle.std.proofs.Common.{arith, ap, ◌∙◌, ◌≡◌, ◌≢◌}
use Rattle.std.specs.Int.{bit_at}
use Rattle.flow_reach.proofs.Grow.{grows_then, grows_as}
use Rattle.flow_reach.proofs.Steps.{added_more, added_none, added_all}
use Rattle.flow_reach.proofs.Works.{grows_none}
use Rattle.flow_reach.proofs.spread.add.Goals as goal

pub add_with-requires-clause-fact : goal.add_with-requires-clause-fact
add_with-requires-clause-fact c = c.requires.facts c.lowest-bit.result (c.loop-left.invariant.sub c.lowest-bit.result c.lowest-bit.ensures.has)

pub add_with-requires-clause-room : goal.add_with-requires-clause-room
add_with-requires-clause-room c k by =
    omega (arith, c.loop-left.invariant.grows.room, c.requires.room k (c.lowest-bit.result, c.loop-left.invariant.sub c.lowest-bit.result c.lowest-bit.ensures.has, by))

pub loop-left-init : goal.loop-left-init
loop-left-init c = record {
  grows = grows_none _ c.args.work.now c.requires.shaped (λ k h. absurd (added_none _ _ _ _ _ k h));
  sub = λ i h. h;
}

pub loop-left-smaller : goal.loop-left-smaller
loop-left-smaller c =
    let bit = c.lowest-bit.result in
    let differs : c.without-left.result ≢ c.loop-left.left = λ e.
    let there : bit_at c.without-left.result bit ≡ 1 = ap (λ x. bit_at x bit) e ∙ c.lowest-bit.ensures.has in
    ((c.without-left.ensures.bits bit).0 there).1 ((c.one.ensures bit).1 (omega (arith, c.lowest-bit.ensures.small))) in
    omega (arith, c.without-left.ensures.less, differs)

pub loop-left-preserved : goal.loop-left-preserved
loop-left-preserved c =
    let i = c.loop-left.invariant in
    let bit = c.lowest-bit in
    record {
      grows = grows_then _ _ _ _ _ _ i.grows c.in_ok-add_with.ensures (added_more c.args.points.now c.args.stride c.args.adds.now c.args.base c.args.word c.loop-left.left bit.result c.one.result c.without-left.result bit.ensures.has i.sub bit.ensures.small c.one.ensures c.without-left.ensures.bits);
      sub = λ k h. i.sub k ((c.without-left.ensures.bits k).0 h).0;
    }

pub returns : goal.returns
returns c = grows_as _ _ _ _ c.loop-left.invariant.grows (λ k. added_all c.args.points.now c.args.stride c.args.adds.now c.args.base c.args.word c.loop-left.left k (omega (arith, c.loop-left-test.false)))
