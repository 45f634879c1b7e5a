use Rattle.std.proofs.Common.{◌≡◌, ◌++◌, length, reverse}
use Rattle.scan_session.proofs.scanner.append_notices.Given as goal

abbrev pub decreases-loop-notice : goal.decreases-loop-notice
decreases-loop-notice l = length l.more

abbrev pub invariant-loop-notice : goal.invariant-loop-notice
invariant-loop-notice l = l.notices.items ++ reverse l.more ≡ l.fn.notices.items ++ l.fn.more
