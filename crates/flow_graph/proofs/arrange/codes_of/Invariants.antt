use Rattle.std.proofs.Common.{◌↔◌, ℕ, take}
use Rattle.graph_form.specs.Sets.{Among}
use Rattle.flow_graph.specs.Keys.{IsCode}
use Rattle.flow_graph.proofs.arrange.codes_of.Given as goal

abbrev pub invariant-loop-transfer : goal.invariant-loop-transfer
invariant-loop-transfer l = (x : ℕ) → Among l.codes.items x ↔ IsCode l.keys (take l.transfer-index l.transfers) x
