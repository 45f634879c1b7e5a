use Rattle.std.proofs.Common.{sym}
use Rattle.flow_graph.proofs.Walks.{graph_is}
use Rattle.flow_graph.proofs.unit_graph.graph_at.Goals as goal

pub returns : goal.returns
returns c root count at = graph_is root c.args.depth c.args.unit _ c.graph_from.result (sym count) (c.in_ok-body.ensures root at) c.graph_from.ensures
