use Rattle.std.proofs.Common.{◌≡◌, ◌+◌, drop}
use Rattle.yaml_lines.specs.Body.{texts, blank_len}
use Rattle.yaml_lines.proofs.body.blank_len.Given as goal

abbrev pub invariant-loop-at : goal.invariant-loop-at
invariant-loop-at l = blank_len (texts l.lines) ≡ l.at + blank_len (texts (drop l.at l.lines))
