use Rattle.finding_json.specs.Reports.{edit_data}
use Rattle.finding_json.proofs.Sent.{ItemsLeft}
use Rattle.finding_json.proofs.fixes.send_edits.Given as goal

abbrev pub invariant-loop-edit : goal.invariant-loop-edit
invariant-loop-edit g l = ItemsLeft edit_data l.edits l.edit-index (g.S.Serializer.written l.initial.out) (g.S.Serializer.written l.out)
