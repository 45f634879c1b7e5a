use Rattle.std.proofs.Common.{◌≡◌, ◌≤◌, [], length}
use Rattle.wire_stream.specs.Streams.{Uses}
use Rattle.wire_stream.proofs.head.read_line.Given as goal

abbrev pub invariant-loop : goal.invariant-loop
invariant-loop g l = record {
  counted : l.counter ≤ length l.hand;
  within : l.counter ≤ 1040;
  uses : Uses (g.S.Source.left l.initial.input) (g.S.Source.left l.input) l.initial.hand l.hand [];
  faults : g.S.Source.faults l.input ≡ g.S.Source.faults l.initial.input;
}
