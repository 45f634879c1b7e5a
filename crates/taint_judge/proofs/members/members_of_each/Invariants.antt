use Rattle.std.proofs.Common.{◌≡◌}
use Rattle.std.specs.Prelude.{All}
use Rattle.tree_match.specs.Placed.{IsPlaced}
use Rattle.range_algebra.proofs.Children.{Walked}
use Rattle.taint_judge.proofs.Each.{InLent, IsLentSet}
use Rattle.taint_judge.proofs.members.members_of_each.Given as goal

abbrev pub invariant-loop-number : goal.invariant-loop-number
invariant-loop-number l =
    (l.rx ≡ l.fn.rx) × Walked (InLent l.leaves l.fn.rx l.view.bytes) (IsLentSet l.leaves l.fn.rx l.view.bytes) l.formulas l.number l.each.items
    × All (All (λ m. IsPlaced l.view.bytes m)) l.each.items
