use Rattle.std.proofs.Common.{◌≡◌, map, drop}
use Rattle.range_algebra.specs.Trees.{has, is_focus, branch_of, branches_of}
use Rattle.range_algebra.proofs.condition.has_focus.Given as goal

abbrev pub invariant-loop-child : goal.invariant-loop-child
invariant-loop-child l = has is_focus (branches_of (map branch_of l.children)) ≡ has is_focus (branches_of (map branch_of (drop l.child-index l.children)))
