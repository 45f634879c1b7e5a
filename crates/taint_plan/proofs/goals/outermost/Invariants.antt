use Rattle.std.proofs.Common.{◌≡◌, take}
use Rattle.node_pool.specs.Spots.{all_seen}
use Rattle.taint_form.specs.Expressions.{nodes_now}
use Rattle.taint_plan.specs.SinkGoals.{outermost_among}
use Rattle.taint_plan.proofs.goals.outermost.Given as goal

abbrev pub invariant-loop-top : goal.invariant-loop-top
invariant-loop-top l = nodes_now l.outer ≡ outermost_among l.range (all_seen (take l.top-index l.heads))
