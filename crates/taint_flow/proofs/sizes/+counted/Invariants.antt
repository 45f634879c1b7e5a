use Rattle.std.specs.Prelude.{◌≡◌, ◌+◌, take}
use Rattle.std.specs.List.{sum_by}
use Rattle.node_tree.specs.Tree.{pre_all}
use Rattle.taint_flow.specs.Bounds.{points_at, names_at}
use Rattle.taint_flow.proofs.sizes.+counted.Given as goal

abbrev pub invariant-loop-kid : goal.invariant-loop-kid
invariant-loop-kid l =
    let before = pre_all (take l.kid-index l.kid-items) in
    (l.points ≡ points_at l.node + sum_by points_at before) × (l.names ≡ names_at l.node + sum_by names_at before)
