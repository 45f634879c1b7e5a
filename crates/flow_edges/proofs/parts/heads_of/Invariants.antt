use Rattle.std.proofs.Common.{◌≡◌, map, take}
use Rattle.flow_edges.specs.Flow.{head}
use Rattle.flow_edges.proofs.parts.heads_of.Given as goal

abbrev pub invariant-loop-statement : goal.invariant-loop-statement
invariant-loop-statement l = l.heads ≡ map head (take l.statement-index l.statements)
