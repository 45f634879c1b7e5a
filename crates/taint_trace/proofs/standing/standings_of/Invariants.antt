use Rattle.std.proofs.Common.{◌↔◌, take}
use Rattle.graph_form.specs.Sets.{Among}
use Rattle.taint_trace.specs.declared.standing.Standing.{Standing}
use Rattle.taint_trace.specs.Standings.{StandsIn}
use Rattle.taint_trace.proofs.standing.standings_of.Given as goal

abbrev pub invariant-loop-place : goal.invariant-loop-place
invariant-loop-place l = (s : Standing) → Among l.all.items s ↔ StandsIn l.tree (take l.place l.units) s
