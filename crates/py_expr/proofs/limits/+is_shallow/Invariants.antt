use Rattle.std.proofs.Common.{◌≡◌, ◌-◌, drop}
use Rattle.std.specs.Prelude.{leb}
use Rattle.node_tree.specs.Tree.{depth_of}
use Rattle.py_expr.specs.Parts.{depth_nodes}
use Rattle.py_expr.proofs.limits.+is_shallow.Given as goal

abbrev pub invariant-loop-kid : goal.invariant-loop-kid
invariant-loop-kid l = leb (depth_of l.node) l.most ≡ leb (depth_nodes (drop l.kid-index l.kid-items)) (l.most - 1)
