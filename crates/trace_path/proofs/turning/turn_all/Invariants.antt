use Rattle.std.proofs.Common.{take, ℕ, ◌↔◌}
use Rattle.graph_form.specs.Sets.{Among}
use Rattle.trace_path.specs.Queue.{Turned}
use Rattle.trace_path.proofs.turning.turn_all.Given as goal

abbrev pub invariant-loop-fact : goal.invariant-loop-fact
invariant-loop-fact l = (after : ℕ) → Among l.into.items after ↔ Turned l.moves l.point (take l.fact-index l.facts) after
