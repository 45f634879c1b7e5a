use Rattle.flow_edges.proofs.Grown.{into_more, among_more}
use Rattle.flow_edges.proofs.transfer.into.Goals as goal

pub loop-to-preserved : goal.loop-to-preserved
loop-to-preserved c = into_more c.args.from _ _ _ _ _ _ c.loop-to.invariant c.in_ok-push.ensures.ok (among_more c.args.targets.now c.loop-to.to-index _ c.loop-to-test.true)
