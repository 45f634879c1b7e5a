use Rattle.taint_tables.proofs.SinkLists.{added_if}
use Rattle.taint_tables.proofs.sink_index.add_if.Goals as goal

pub returns-then-hull-sink : goal.returns-then-hull-sink
returns-then-hull-sink c = added_if c.args.into.now.items _ c.args.sink c.args.hull.first_end c.if-hull-sink.true c.in_ok-push.ensures.items
