use Rattle.std.proofs.Common.{◌≡◌, ◌-◌, drop}
use Rattle.std.specs.Prelude.{leb}
use Rattle.sums.specs.Tree.{view, views, trees, depth, depths}
use Rattle.sums.proofs.runs.+is_shallow.Given as goal

abbrev pub invariant-loop-kid : goal.invariant-loop-kid
invariant-loop-kid l = leb (depth (view l.node)) l.most ≡ leb (depths (trees (views (drop l.kid-index l.kid-items)))) (l.most - 1)
