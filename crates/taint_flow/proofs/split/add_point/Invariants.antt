use Rattle.std.proofs.Common.{◌≡◌, ◌↔◌, ◌⊎◌, ◌+◌, ◌<◌, ℕ, length, take}
use Rattle.graph_form.specs.Sets.{Among}
use Rattle.taint_flow.specs.Splits.{ListHas}
use Rattle.taint_flow.proofs.split.add_point.Given as goal

abbrev pub invariant-loop-pair : goal.invariant-loop-pair
invariant-loop-pair l = record {
  size : length l.added.items ≡ length l.initial.added.items;
  added : (source at name : ℕ) → source < l.sources → ListHas l.added.items source (at, name) ↔ (ListHas l.initial.added.items source (at, name) ⊎ ((l.point ≡ at) × Among (take l.pair-index l.adds) (source, l.sources + name)));
}
