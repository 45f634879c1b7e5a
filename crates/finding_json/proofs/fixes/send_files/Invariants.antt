use Rattle.finding_json.specs.Reports.{fixed_data}
use Rattle.finding_json.proofs.Sent.{ItemsLeft}
use Rattle.finding_json.proofs.fixes.send_files.Given as goal

abbrev pub invariant-loop-file : goal.invariant-loop-file
invariant-loop-file g l = ItemsLeft fixed_data l.files l.file-index (g.S.Serializer.written l.initial.out) (g.S.Serializer.written l.out)
