use Rattle.std.proofs.Common.{sym, subst, Some}
use Rattle.std.specs.Prelude.{Option, None, IfSome}
use Rattle.node_tree.specs.Tree.{pre_of}
use Rattle.taint_flow.specs.declared.sizes.Bounds.{Bounds}
use Rattle.taint_flow.specs.Bounds.{AreBounds, AreCounted}
use Rattle.taint_flow.proofs.Idle.{are_bounds}
use Rattle.taint_flow.proofs.sizes.Bounds.of.Goals as goal

pub returns : goal.returns
returns c = by c.counted.result c.counted.ensures
  where
    by : (o : Option Bounds) → IfSome o (AreCounted (pre_of c.args.root.now)) → IfSome o (AreBounds c.args.root.now)
    by None are = tt
    by (Some bounds) are = are_bounds c.args.root.now bounds are
