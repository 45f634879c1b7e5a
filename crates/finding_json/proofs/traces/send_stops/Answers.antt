use Rattle.std.proofs.Common.{refl, rules}
use Rattle.std.proofs.lemmas.List.{get_or_default}
use Rattle.std.proofs.lemmas.Result.{on_ok_weaker}
use Rattle.finding_json.specs.Reports.{stop_data}
use Rattle.finding_json.proofs.Sent.{items_one_more, items_end}
use Rattle.finding_json.proofs.traces.send_stops.Goals as goal

pub loop-stop-preserved : goal.loop-stop-preserved
loop-stop-preserved g c = items_one_more stop_data _ _ _ _ _ _ (search rules) (get_or_default c.args.stops.now c.loop-stop.stop-index _ _ c.loop-stop-test.true) c.loop-stop.invariant c.in_ok-send_stop.ensures

pub returns : goal.returns
returns g c =
    on_ok_weaker c.end_seq.result (items_end stop_data c.args.stops.now _ c.loop-stop.stop-index _ _ _ _ refl (search rules) c.in_ok-begin_seq.ensures c.loop-stop.invariant) c.end_seq.ensures
