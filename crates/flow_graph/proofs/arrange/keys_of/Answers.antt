use Rattle.std.proofs.Common.{◌^◌}
use Rattle.flow_graph.specs.Keys.{key_of}
use Rattle.flow_graph.proofs.Orders.{map_more, small_more}
use Rattle.flow_graph.proofs.arrange.keys_of.Goals as goal

pub loop-point-preserved : goal.loop-point-preserved
loop-point-preserved c =
    let i = c.loop-point.invariant in
    record {
      keys = map_more key_of c.args.points.now c.loop-point.point-index _ _ _ c.key.result c.loop-point-test.true i.keys c.in_ok-push.ensures.items c.key.ensures.key;
      small = small_more (2 ^ 35) _ _ c.key.result i.small c.in_ok-push.ensures.items c.key.ensures.small;
    }
