use Rattle.std.proofs.Common.{◌≡◌, ◌<◌, ◌≤◌, vec_len}
use Rattle.std.specs.Io.KnownBytes.{Consumes}
use Rattle.scan_run.proofs.input.read_input.Given as goal

abbrev pub invariant-loop : goal.invariant-loop
invariant-loop g l = record {
  within : vec_len l.bytes < 1000001;
  counted : l.counter ≤ vec_len l.bytes;
  taken : Consumes (g.S.Source.left l.initial.input) (g.S.Source.left l.input) l.bytes.items;
  faults : g.S.Source.faults l.input ≡ g.S.Source.faults l.initial.input;
}
