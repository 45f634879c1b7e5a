use Rattle.std.proofs.Common.{◌≡◌, take, map}
use Rattle.std.specs.List.{concat}
use Rattle.std.specs.Io.KnownBytes.{Appends}
use Rattle.scan_run.specs.Lines.{line_of}
use Rattle.scan_run.proofs.output.print_all.Given as goal

abbrev pub invariant-loop-at : goal.invariant-loop-at
invariant-loop-at g l = record {
  faults : g.K.Sink.faults l.out ≡ g.K.Sink.faults l.initial.out;
  printed : Appends (g.K.Sink.written l.initial.out) (g.K.Sink.written l.out) (concat (map line_of (take l.at l.members)));
}
