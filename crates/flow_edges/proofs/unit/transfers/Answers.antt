use Rattle.flow_edges.proofs.Grown.{unit_transfers}
use Rattle.flow_edges.proofs.unit.transfers.Goals as goal

pub returns : goal.returns
returns c = unit_transfers c.args.depth c.args.entry c.args.exit c.args.body.now c.in_ok-whole.whole _ _ _ c.new-out.ensures c.in_ok-whole.ensures c.in_ok-enter.ensures c.in_ok-walk_row.ensures
