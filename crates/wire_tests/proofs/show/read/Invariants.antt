use Rattle.std.proofs.Common.{◌≡◌, false}
use Rattle.wire_tests.proofs.show.read.Given as goal

abbrev pub invariant-loop : goal.invariant-loop
invariant-loop l = l.feed.failed ≡ false
