use Rattle.std.proofs.Common.{◌≡◌, ◌↔◌, ℕ, take, length}
use Rattle.graph_form.specs.Sets.{Among}
use Rattle.flow_reach.specs.Spread.{RowHas}
use Rattle.flow_reach.proofs.successor_table.successors.Given as goal

abbrev pub invariant-loop : goal.invariant-loop
invariant-loop l = record {
  rows : length l.table.items ≡ l.counter;
  none : (from to : ℕ) → RowHas l.table.items from to → ⊥;
}

abbrev pub invariant-loop-edge : goal.invariant-loop-edge
invariant-loop-edge l = record {
  rows : length l.table.items ≡ length l.graph.points;
  exact : (from to : ℕ) → RowHas l.table.items from to ↔ Among (take l.edge-index l.edge-items) (record { from = from; to = to });
}
