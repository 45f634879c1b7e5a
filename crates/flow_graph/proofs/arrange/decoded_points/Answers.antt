use Rattle.graph_form.proofs.Amongs.{among_at}
use Rattle.flow_graph.proofs.arrange.decoded_points.Goals as goal

pub point_of-requires : goal.point_of-requires
point_of-requires c = c.requires _ (among_at c.args.keys.now c.loop-key.key-index 0 c.loop-key-test.true)
