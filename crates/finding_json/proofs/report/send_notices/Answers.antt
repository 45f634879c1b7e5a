use Rattle.std.proofs.Common.{refl, rules}
use Rattle.std.proofs.lemmas.Result.{on_ok_weaker}
use Rattle.finding_json.specs.Reports.{notice_data}
use Rattle.finding_json.proofs.Sent.{items_end}
use Rattle.finding_json.proofs.report.send_notices.Goals as goal

pub returns : goal.returns
returns g c =
    on_ok_weaker c.end_seq.result (items_end notice_data c.args.notices.now _ c.loop-notice.notice-index _ _ _ _ refl (search rules) c.in_ok-begin_seq.ensures c.loop-notice.invariant) c.end_seq.ensures
