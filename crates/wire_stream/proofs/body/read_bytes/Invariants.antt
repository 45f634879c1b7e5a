use Rattle.std.proofs.Common.{◌≡◌}
use Rattle.wire_stream.proofs.Bodies.{Reading}
use Rattle.wire_stream.proofs.body.read_bytes.Given as goal

abbrev pub invariant-loop-left : goal.invariant-loop-left
invariant-loop-left g l = record {
  reading : Reading (g.S.Source.left l.initial.input) (g.S.Source.left l.input) l.initial.hand l.hand l.size l.most l.left l.kept;
  faults : g.S.Source.faults l.input ≡ g.S.Source.faults l.initial.input;
}

abbrev pub decreases-loop-left : goal.decreases-loop-left
decreases-loop-left g l = l.left
