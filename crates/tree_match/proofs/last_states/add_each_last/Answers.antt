use Rattle.std.proofs.Common.{◌↔◌, List, subst}
use Rattle.node_pool.specs.Spots.{seen}
use Rattle.node_match.proofs.Sets.{gathered, gathered_all}
use Rattle.node_search.specs.declared.state.State.{State}
use Rattle.node_search.specs.States.{line_of, AnyFrom}
use Rattle.node_search.proofs.Steps.{first_state, no_state}
use Rattle.tree_match.proofs.last_states.add_each_last.Goals as goal

pub loop-state-preserved : goal.loop-state-preserved
loop-state-preserved c k ps e single many all =
    gathered _ _ _ _ _ _ (c.in_ok-add_last.ensures k ps e single many all) (first_state k (line_of (seen c.args.holder)) ps _ _ _ e c.loop-state-test.true c.state-item.is) (c.loop-state.invariant k ps e single many all)

pub returns : goal.returns
returns c k ps e single many all =
    let l = line_of (seen c.args.holder) in
    let P : List State → Type 0 = λ ss. AnyFrom k l ps c.loop-state.last e ↔ AnyFrom k l ps ss e in
    subst P c.as_slice-state-items.ensures (gathered_all _ _ _ (no_state k l ps _ _ e c.loop-state-test.false) (c.loop-state.invariant k ps e single many all))
