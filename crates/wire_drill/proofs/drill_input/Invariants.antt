use Rattle.std.proofs.Common.{◌≡◌, map}
use Rattle.std.specs.List.{range_with_len}
use Rattle.wire_drill.specs.Drill.{file}
use Rattle.wire_drill.proofs.drill_input.Given as goal

abbrev pub invariant-loop-number : goal.invariant-loop-number
invariant-loop-number l = l.wires ≡ map file (range_with_len 0 l.number)
