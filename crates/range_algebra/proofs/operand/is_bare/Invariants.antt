use Rattle.std.proofs.Common.{◌≡◌, map, drop}
use Rattle.range_algebra.specs.Trees.{has, is_positive, is_inside, branch_of, branches_of}
use Rattle.range_algebra.proofs.operand.is_bare.Given as goal

abbrev pub invariant-loop-child : goal.invariant-loop-child
invariant-loop-child l = record {
  positive : has is_positive (branches_of (map branch_of l.children)) ≡ has is_positive (branches_of (map branch_of (drop l.child-index l.children)));
  inside : has is_inside (branches_of (map branch_of l.children)) ≡ has is_inside (branches_of (map branch_of (drop l.child-index l.children)));
}
