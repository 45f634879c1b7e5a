use Rattle.std.proofs.Common.{◌↔◌, ◌⊎◌, subst, List, []}
use Rattle.node_search.specs.declared.state.State.{State}
use Rattle.node_match.specs.Sets.{Among}
use Rattle.node_search.specs.States.{AnyFrom}
use Rattle.node_match.proofs.Sets.{gathered, gathered_all}
use Rattle.node_search.proofs.Steps.{first_state, no_state}
use Rattle.node_search.proofs.list.finish.Goals as goal

pub loop-state-preserved : goal.loop-state-preserved
loop-state-preserved c k l many b =
    gathered _ _ _ _ _ _ (c.in_ok-finish_one.ensures k l many b) (first_state k l _ _ _ _ ([], b) c.loop-state-test.true c.state-item.is) (c.loop-state.invariant k l many b)

pub returns : goal.returns
returns c k l many b =
    let P : List State → Type 0 = λ ss. Among c.loop-state.out b ↔ (Among c.args.out.now b ⊎ AnyFrom k l [] ss ([], b)) in
    subst P c.as_slice-state-items.ensures (gathered_all _ _ _ (no_state k l _ _ _ ([], b) c.loop-state-test.false) (c.loop-state.invariant k l many b))
