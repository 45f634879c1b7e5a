use Rattle.node_match.proofs.Sets.{adds_as, adds_none}
use Rattle.node_search.proofs.Steps.{state_ends, state_ends_here, state_goes_on}
use Rattle.std.proofs.Common.{arith}
use Rattle.node_search.proofs.list.finish_one.Goals as goal

pub returns-then-state : goal.returns-then-state
returns-then-state c k l many = adds_as _ _ _ _ c.in_ok-put_trail.ensures (state_ends k l c.args.state.now _ c.in_ok-copy.ensures c.if-state.true)

pub returns-in_ok-put_trail-2 : goal.returns-in_ok-put_trail-2
returns-in_ok-put_trail-2 c k l many = adds_as _ _ _ _ c.in_ok-put_trail-2.ensures (state_ends_here k l c.args.state.now _ c.in_ok-copy-2.ensures c.if-state.false (omega (arith, many)))

pub returns-else-end-state : goal.returns-else-end-state
returns-else-end-state c k l many = adds_none _ _ (state_goes_on k l c.args.state.now c.if-state.false (omega (arith, many)))
