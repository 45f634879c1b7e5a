use Rattle.flow_edges.proofs.Grown.{cross_more, among_more}
use Rattle.flow_edges.proofs.transfer.cross.Goals as goal

pub loop-point-preserved : goal.loop-point-preserved
loop-point-preserved c = cross_more _ _ _ c.args.targets.now _ _ _ c.loop-point.invariant c.in_ok-into.ensures (among_more c.args.points.now c.loop-point.point-index _ c.loop-point-test.true)
