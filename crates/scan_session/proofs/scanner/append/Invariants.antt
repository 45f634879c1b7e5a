use Rattle.std.proofs.Common.{◌≡◌, ◌++◌, length, reverse}
use Rattle.scan_session.proofs.scanner.append.Given as goal

abbrev pub decreases-loop-result : goal.decreases-loop-result
decreases-loop-result l = length l.more

abbrev pub invariant-loop-result : goal.invariant-loop-result
invariant-loop-result l = l.results ++ reverse l.more ≡ l.fn.results ++ l.fn.more
