use Rattle.std.proofs.Common.{◌↔◌, ℕ, take}
use Rattle.graph_form.specs.Sets.{Among}
use Rattle.taint_form.specs.Origins.{Comes, ComesAny}
use Rattle.taint_form.proofs.origins.Origins.origins.Given as goal

abbrev pub invariant-loop-fact : goal.invariant-loop-fact
invariant-loop-fact l = (from : ℕ) → Among l.all.items from ↔ ComesAny (Comes l.self) (take l.fact-index l.facts) from
