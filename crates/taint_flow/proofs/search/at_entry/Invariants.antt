use Rattle.std.proofs.Common.{◌≡◌, ◌↔◌, ◌+◌, ℕ, take}
use Rattle.graph_form.specs.Sets.{Among}
use Rattle.taint_flow.proofs.search.at_entry.Given as goal

abbrev pub invariant-loop-fact : goal.invariant-loop-fact
invariant-loop-fact l = (point name : ℕ) → Among l.starts.items (point, name) ↔ ((0 ≡ point) × Among (take l.fact-index l.begins) (l.sources + name))
