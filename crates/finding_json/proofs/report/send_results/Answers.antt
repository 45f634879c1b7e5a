use Rattle.std.proofs.Common.{refl, rules}
use Rattle.std.proofs.lemmas.Result.{on_ok_weaker}
use Rattle.finding_json.specs.Reports.{result_data}
use Rattle.finding_json.proofs.Sent.{items_one_more, items_end}
use Rattle.finding_json.proofs.report.send_results.Goals as goal

pub loop-reported-preserved : goal.loop-reported-preserved
loop-reported-preserved g c = items_one_more result_data _ _ _ _ _ _ (search rules) c.reported-item.is c.loop-reported.invariant c.in_ok-send_result.ensures

pub returns : goal.returns
returns g c =
    on_ok_weaker c.end_seq.result (items_end result_data c.args.results.now _ c.loop-reported.reported-index _ _ _ _ refl (search rules) c.in_ok-begin_seq.ensures c.loop-reported.invariant) c.end_seq.ensures
