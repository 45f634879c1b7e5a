use Rattle.std.proofs.Common.{◌≡◌, ◌-◌, ◌≤◌, drop, take}
use Rattle.yaml_cells.specs.Flow.{flow_from, flow_cells}
use Rattle.yaml_cells.proofs.Cells.{behind}
use Rattle.yaml_cells.proofs.flow.push_flow.Given as goal

abbrev pub invariant-loop-at : goal.invariant-loop-at
invariant-loop-at l = record {
  cells : behind l.fn.cells (flow_cells l.column l.text) ≡ behind l.cells (flow_from l.column l.scan l.gap (take (l.at - l.from) (drop l.from l.text)) (drop l.at l.text));
  from : l.from ≤ l.at;
  depth : l.scan.depth ≤ l.at;
}
