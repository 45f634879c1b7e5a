use Rattle.std.proofs.Common.{take, ℕ, ◌↔◌}
use Rattle.graph_form.specs.Sets.{Among}
use Rattle.trace_path.specs.Along.{TurnedBy}
use Rattle.trace_path.proofs.check.turned.Given as goal

abbrev pub invariant-loop-fact : goal.invariant-loop-fact
invariant-loop-fact l = (g : ℕ) → Among l.turned.items g ↔ TurnedBy l.row (take l.fact-index l.facts) g
