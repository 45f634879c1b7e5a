use Rattle.taint_flow.specs.Bounds.{points_at, names_at}
use Rattle.taint_flow.proofs.PointCounts.{tree_summed}
use Rattle.taint_flow.proofs.sizes.+counted.Goals as goal

pub returns : goal.returns
returns t c = record {
  points = tree_summed points_at c.args.node.now c.as_slice-kid-items.result.now c.loop-kid.kid-index c.loop-kid.points c.as_slice-kid-items.ensures c.loop-kid-test.false c.loop-kid.invariant.0;
  names = tree_summed names_at c.args.node.now c.as_slice-kid-items.result.now c.loop-kid.kid-index c.loop-kid.names c.as_slice-kid-items.ensures c.loop-kid-test.false c.loop-kid.invariant.1;
}
