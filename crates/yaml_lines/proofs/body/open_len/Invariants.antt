use Rattle.std.proofs.Common.{◌≡◌, ◌+◌, ◌*◌, ◌^◌, ◌≤◌, drop}
use Rattle.yaml_lines.specs.Body.{texts, open_len}
use Rattle.yaml_lines.proofs.body.open_len.Given as goal

abbrev pub invariant-loop-at : goal.invariant-loop-at
invariant-loop-at l = record {
  rest : open_len l.fn.start (texts l.lines) ≡ l.at + open_len l.scan (texts (drop l.at l.lines));
  depth : l.scan.depth ≤ (l.at + 1) * 2 ^ 20;
}
