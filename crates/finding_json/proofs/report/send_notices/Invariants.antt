use Rattle.finding_json.specs.Reports.{notice_data}
use Rattle.finding_json.proofs.Sent.{ItemsLeft}
use Rattle.finding_json.proofs.report.send_notices.Given as goal

abbrev pub invariant-loop-notice : goal.invariant-loop-notice
invariant-loop-notice g l = ItemsLeft notice_data l.notices l.notice-index (g.S.Serializer.written l.initial.out) (g.S.Serializer.written l.out)
