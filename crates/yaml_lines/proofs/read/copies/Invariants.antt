use Rattle.std.proofs.Common.{◌≡◌, take}
use Rattle.yaml_lines.specs.Body.{texts}
use Rattle.yaml_lines.proofs.read.copies.Given as goal

abbrev pub invariant-loop-line : goal.invariant-loop-line
invariant-loop-line l = l.all ≡ texts (take l.line-index l.lines)
