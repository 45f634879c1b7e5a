use Rattle.std.proofs.Common.{◌≡◌, take}
use Rattle.session.proofs.copying.copy_notices.Given as goal

abbrev pub invariant-loop-one : goal.invariant-loop-one
invariant-loop-one l = l.copy ≡ take l.one-index l.notices
