use Rattle.std.proofs.Common.{◌≡◌, suc, ◌≤◌, ◌-◌, ◌+◌, ◌*◌, reverse}
use Rattle.yaml_read.specs.Building.{node_at, items_at, entries_at, flow_at, steps}
use Rattle.yaml_read.proofs.Steps.{with_items, with_entries}
use Rattle.yaml_read.proofs.build.+build.Given as goal

abbrev pub decreases-node : goal.decreases-node
decreases-node l = 2 * l.room

abbrev pub decreases-items : goal.decreases-items
decreases-items l = 2 * l.room + 1

abbrev pub decreases-entries : goal.decreases-entries
decreases-entries l = 2 * l.room + 1

abbrev pub decreases-flow : goal.decreases-flow
decreases-flow l = 2 * l.room + 1

abbrev pub invariant-items-loop-turn : goal.invariant-items-loop-turn
invariant-items-loop-turn l = record {
  turns : l.turn ≤ suc l.most;
  most : suc l.most ≡ steps (reverse l.fn.cells);
  rest : items_at (node_at l.room (l.column + 1)) (suc l.most) l.column (reverse l.fn.cells) ≡ with_items l.all (items_at (node_at l.room (l.column + 1)) (suc l.most - l.turn) l.column (reverse l.cells));
}

abbrev pub invariant-entries-loop-turn : goal.invariant-entries-loop-turn
invariant-entries-loop-turn l = record {
  turns : l.turn ≤ suc l.most;
  most : suc l.most ≡ steps (reverse l.fn.cells);
  rest : entries_at (node_at l.room) (suc l.most) l.column (reverse l.fn.cells) ≡ with_entries l.all (entries_at (node_at l.room) (suc l.most - l.turn) l.column (reverse l.cells));
}

abbrev pub invariant-flow-loop-turn : goal.invariant-flow-loop-turn
invariant-flow-loop-turn l = record {
  turns : l.turn ≤ suc l.most;
  most : suc l.most ≡ steps (reverse l.fn.cells);
  rest : flow_at (node_at l.room 0) (suc l.most) (reverse l.fn.cells) ≡ with_items l.all (flow_at (node_at l.room 0) (suc l.most - l.turn) (reverse l.cells));
}
