use Rattle.std.proofs.Common.{◌+◌, ◌*◌, ◌≤◌, ℕ, ap, subst}
use Rattle.std.specs.Prelude.{Option, IfSome}
use Rattle.taint_flow.specs.declared.sizes.Bounds.{Bounds}
use Rattle.taint_flow.specs.Bounds.{AreBounds}
use Rattle.taint_flow.proofs.Idle.{none_large, within_limit}
use Rattle.taint_flow.proofs.sizes.is_idle.Goals as goal

pub returns-in-Some-clause-fits : goal.returns-in-Some-clause-fits
returns-in-Some-clause-fits c root are idle =
    let most = c.in-Some.most in
    let P : Option Bounds → Type 0 = λ o. IfSome o (AreBounds root) in
    let Few : ℕ → Type 0 = λ sources. (most.points + 2) * (most.names * sources + 1) ≤ 50000000 in
    none_large root most c.args.sets.now (subst P c.in-Some.is are) (subst Few c.len-sources.ensures (within_limit c.is_large.result ((most.points + 2) * (most.names * c.len-sources.result + 1)) c.is_large.ensures.1 idle))
