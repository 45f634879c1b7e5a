use Rattle.std.proofs.Common.{◌≡◌, ◌↔◌, ◌<◌, ℕ, length}
use Rattle.graph_form.specs.declared.graph.Graph.{Graph}
use Rattle.taint_flow.specs.Splits.{AddsName, ListHas}
use Rattle.taint_flow.specs.Still.{AreReachable}
use Rattle.taint_flow.proofs.split.points_of.Given as goal

abbrev pub invariant-loop-point : goal.invariant-loop-point
invariant-loop-point l = record {
  size : length l.added.items ≡ l.sources;
  exact : (graph : Graph) → AreReachable graph l.reached → (source at name : ℕ) → source < l.sources → ListHas l.added.items source (at, name) ↔ ((at < l.point) × AddsName graph l.moves l.sources source (at, name));
}
