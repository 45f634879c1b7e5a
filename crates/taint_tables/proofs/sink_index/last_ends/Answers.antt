use Rattle.std.proofs.Common.{arith, rules}
use Rattle.taint_tables.specs.declared.sink.Sink.{Sink}
use Rattle.taint_tables.proofs.SinkLists.{ends_more}
use Rattle.taint_tables.proofs.sink_index.last_ends.Goals as goal

abbrev none : Sink
none = record { place = 0; range = record { from = 0; to = 0 } }

pub loop-sink-preserved : goal.loop-sink-preserved
loop-sink-preserved c =
    ends_more c.args.sinks.now c.loop-sink.sink-index none c.loop-sink.last c.max-last.result c.loop-sink.ends.items c.push.new.self.items c.loop-sink-test.true c.loop-sink.invariant (search rules) (search rules) c.in_ok-push.ensures.items

pub returns : goal.returns
returns c = record {
  size = omega (arith, c.loop-sink.invariant.size, c.loop-sink-test.false, c.loop-sink.auto.sink-index-end);
  last = λ i j s le less got. c.loop-sink.invariant.each i j s le (omega (arith, less, c.loop-sink.invariant.size)) got;
}
