use Rattle.std.proofs.Common.{◌≡◌, take}
use Rattle.session.proofs.copying.copy_trace.Given as goal

abbrev pub invariant-loop-stop : goal.invariant-loop-stop
invariant-loop-stop l = l.copy ≡ take l.stop-index l.trace
