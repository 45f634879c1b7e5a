use Rattle.std.proofs.Common.{◌≡◌, drop}
use Rattle.yaml_lines.specs.Lines.{last_or}
use Rattle.yaml_lines.proofs.read.last_or.Given as goal

abbrev pub invariant-loop-dash : goal.invariant-loop-dash
invariant-loop-dash l = last_or l.fn.above l.dashes ≡ last_or l.last (drop l.dash-index l.dashes)
