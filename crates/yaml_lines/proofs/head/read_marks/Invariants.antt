use Rattle.std.proofs.Common.{◌≡◌, false, drop}
use Rattle.yaml_lines.specs.Marks.{marks_at}
use Rattle.yaml_lines.proofs.Steps.{behind}
use Rattle.yaml_lines.proofs.head.read_marks.Given as goal

abbrev pub invariant-loop-at : goal.invariant-loop-at
invariant-loop-at l = marks_at 0 false l.line ≡ behind l.dashes l.before (marks_at l.at l.tab (drop l.at l.line))
