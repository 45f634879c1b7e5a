use Rattle.finding_json.proofs.Sent.{MetavarsLeft}
use Rattle.finding_json.proofs.parts.send_metavars.Given as goal

abbrev pub invariant-loop-bound : goal.invariant-loop-bound
invariant-loop-bound g l = MetavarsLeft l.bounds l.bound-index (g.S.Serializer.written l.initial.out) (g.S.Serializer.written l.out)
