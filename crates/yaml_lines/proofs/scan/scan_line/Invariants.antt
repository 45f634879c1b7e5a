use Rattle.std.proofs.Common.{◌≡◌, ◌+◌, ◌≤◌, drop}
use Rattle.yaml_lines.specs.Scan.{scan_at, scan_line}
use Rattle.yaml_lines.proofs.Steps.{further}
use Rattle.yaml_lines.proofs.scan.scan_line.Given as goal

abbrev pub invariant-loop-at : goal.invariant-loop-at
invariant-loop-at l = record {
  rest : scan_line l.fn.start l.line ≡ further l.at (scan_at l.gap l.scan (drop l.at l.line));
  depth : l.scan.depth ≤ l.fn.start.depth + l.at;
}
