use Rattle.std.proofs.Common.{subst}
use Rattle.std.specs.Prelude.{IfSome, Option}
use Rattle.taint_flow.specs.declared.sizes.Bounds.{Bounds}
use Rattle.taint_flow.specs.Bounds.{AreBounds}
use Rattle.taint_judge.proofs.shared_flow.closer_of.Goals as goal

pub closer-requires : goal.closer-requires
closer-requires c = let P : Option Bounds → Type 0 = λ o. IfSome o (AreBounds c.args.root.now) in subst P c.in-Some.is c.requires.bounds
