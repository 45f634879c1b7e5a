use Rattle.std.proofs.Common.{◌≡◌, ◌++◌, take}
use Rattle.flow_edges.specs.Flow.{laters}
use Rattle.flow_edges.proofs.pending_jumps.push_laters.Given as goal

abbrev pub invariant-loop-route : goal.invariant-loop-route
invariant-loop-route l = l.routes ≡ l.initial.routes ++ laters (take l.route-index l.from)
