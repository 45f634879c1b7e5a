use Rattle.std.proofs.Common.{◌<◌, ◌+◌, ◌-◌, ◌/◌, length, arith}
use Rattle.node_match.proofs.Halving.{held_found, held_nowhere, before_middle, after_middle}
use Rattle.node_match.proofs.known.held_at.Goals as goal

pub returns : goal.returns
returns c = let i = c.loop-low.invariant in held_nowhere _ c.loop-low.low c.loop-low.high c.args.at c.loop-low-test.false i.before i.after

pub returns-then-one-at : goal.returns-then-one-at
returns-then-one-at c =
    let lt : c.loop-low.low + (c.loop-low.high - c.loop-low.low) / 2 < length c.args.known.names.now = omega (arith, c.loop-low.invariant.within, c.loop-low-test.true) in
    held_found c.args.known.names.now _ c.index-names-middle.result c.args.at c.args.known.in_order lt c.index-names-middle.is c.if-one-at.true

pub loop-low-preserved-then-one-at-2 : goal.loop-low-preserved-then-one-at-2
loop-low-preserved-then-one-at-2 c =
    let lt : c.loop-low.low + (c.loop-low.high - c.loop-low.low) / 2 < length c.args.known.names.now = omega (arith, c.loop-low.invariant.within, c.loop-low-test.true) in
    record {
      ordered = omega (arith, c.loop-low-test.true);
      within = c.loop-low.invariant.within;
      before = before_middle c.args.known.names.now _ c.args.at c.index-names-middle.result c.args.known.in_order lt c.index-names-middle.is c.if-one-at-2.true;
      after = c.loop-low.invariant.after;
    }

pub loop-low-preserved : goal.loop-low-preserved
loop-low-preserved c =
    let lt : c.loop-low.low + (c.loop-low.high - c.loop-low.low) / 2 < length c.args.known.names.now = omega (arith, c.loop-low.invariant.within, c.loop-low-test.true) in
    let more : c.args.at < c.index-names-middle.result.at = omega (arith, c.if-one-at.false, c.if-one-at-2.false) in
    record {
      ordered = omega arith;
      within = omega (arith, lt);
      before = c.loop-low.invariant.before;
      after = after_middle c.args.known.names.now _ c.args.at c.index-names-middle.result c.args.known.in_order lt c.index-names-middle.is more;
    }
