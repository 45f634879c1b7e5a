use Rattle.quieting.proofs.Keys.{one_id, ids_end}
use Rattle.quieting.proofs.line.add_ids.Goals as goal

pub loop-id-preserved : goal.loop-id-preserved
loop-id-preserved c =
    one_id c.args.line c.args.ids.now c.loop-id.id-index c.id-item.result c.as_str.result c.args.lines.now c.loop-id.lines c.insert.new.self c.loop-id-test.true c.id-item.is c.as_str.ensures
    c.in_ok-insert.ensures.updates.0 c.loop-id.invariant

pub returns : goal.returns
returns c = ids_end c.args.line c.args.ids.now c.loop-id.id-index c.args.lines.now c.loop-id.lines c.loop-id-test.false c.loop-id.invariant
