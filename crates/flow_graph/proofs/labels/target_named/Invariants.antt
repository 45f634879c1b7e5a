use Rattle.std.proofs.Common.{◌≡◌, drop}
use Rattle.flow_graph.specs.Outline.{target_among}
use Rattle.flow_graph.proofs.labels.target_named.Given as goal

abbrev pub invariant-loop-label : goal.invariant-loop-label
invariant-loop-label l = target_among l.labels l.exit l.name ≡ target_among (drop l.label-index l.labels) l.exit l.name
