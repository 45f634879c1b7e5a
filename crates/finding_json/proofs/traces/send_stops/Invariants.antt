use Rattle.finding_json.specs.Reports.{stop_data}
use Rattle.finding_json.proofs.Sent.{ItemsLeft}
use Rattle.finding_json.proofs.traces.send_stops.Given as goal

abbrev pub invariant-loop-stop : goal.invariant-loop-stop
invariant-loop-stop g l = ItemsLeft stop_data l.stops l.stop-index (g.S.Serializer.written l.initial.out) (g.S.Serializer.written l.out)
