use Rattle.std.proofs.Common.{◌≡◌, ◌↔◌, ◌⊎◌, take}
use Rattle.graph_form.specs.Sets.{Among}
use Rattle.taint_trace.specs.declared.standing.Standing.{Standing}
use Rattle.taint_trace.proofs.standing.add_standings.Given as goal

abbrev pub invariant-loop-span : goal.invariant-loop-span
invariant-loop-span l = (s : Standing) → Among l.into.items s ↔ (Among l.initial.into.items s ⊎ ((s.place ≡ l.place) × Among (take l.span-index l.spans) s.span))
