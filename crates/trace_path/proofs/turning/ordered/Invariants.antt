use Rattle.std.proofs.Common.{take, ◌≡◌}
use Rattle.trace_path.proofs.turning.ordered.Given as goal

abbrev pub invariant-loop-number : goal.invariant-loop-number
invariant-loop-number l = l.sorted.items ≡ take l.number-index l.numbers
