use Rattle.std.proofs.Common.{◌≡◌, take}
use Rattle.taint_form.proofs.origins.Origins.joined.Given as goal

abbrev pub invariant-loop-origin : goal.invariant-loop-origin
invariant-loop-origin l = l.origins.items ≡ take l.origin-index l.value
