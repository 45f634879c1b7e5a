use Rattle.flow_graph.proofs.Walks.{graph_is}
use Rattle.flow_graph.proofs.unit_graph.graph_of.Goals as goal

pub returns : goal.returns
returns c = graph_is c.args.root.now c.in-Some.depth c.args.unit _ c.graph_from.result c.in-Some.ensures c.in_ok-body.ensures c.graph_from.ensures
