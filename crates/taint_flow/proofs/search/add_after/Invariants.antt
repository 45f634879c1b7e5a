use Rattle.std.proofs.Common.{◌↔◌, ◌⊎◌, ℕ, take}
use Rattle.graph_form.specs.Sets.{Among}
use Rattle.flow_reach.specs.Spread.{RowHas}
use Rattle.taint_flow.proofs.search.add_after.Given as goal

abbrev pub invariant-loop-at : goal.invariant-loop-at
invariant-loop-at l = (to name : ℕ) → Among l.into.items (to, name) ↔ (Among l.initial.into.items (to, name) ⊎ ((point : ℕ) × Among (take l.at-index l.added) (point, name) × RowHas l.after point to))
