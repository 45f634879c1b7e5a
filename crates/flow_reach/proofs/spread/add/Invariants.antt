use Rattle.std.proofs.Common.{◌≡◌, ℕ}
use Rattle.std.specs.Int.{bit_at}
use Rattle.flow_reach.specs.Spread.{Added, Done}
use Rattle.flow_reach.specs.Worklist.{Grows}
use Rattle.flow_reach.proofs.spread.add.Given as goal

abbrev pub invariant-loop-left : goal.invariant-loop-left
invariant-loop-left l = record {
  grows : Grows (Added (Done l.word l.left) l.points l.stride l.adds l.base) l.initial.work l.work;
  sub : (i : ℕ) → bit_at l.left i ≡ 1 → bit_at l.word i ≡ 1;
}

abbrev pub decreases-loop-left : goal.decreases-loop-left
decreases-loop-left l = l.left
