use Rattle.finding_json.specs.Reports.{result_data}
use Rattle.finding_json.proofs.Sent.{ItemsLeft}
use Rattle.finding_json.proofs.report.send_results.Given as goal

abbrev pub invariant-loop-reported : goal.invariant-loop-reported
invariant-loop-reported g l = ItemsLeft result_data l.results l.reported-index (g.S.Serializer.written l.initial.out) (g.S.Serializer.written l.out)
