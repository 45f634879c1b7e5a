use Rattle.std.proofs.Common.{◌↔◌, List, ◌∷◌, subst}
use Rattle.std.specs.Prelude.{None}
use Rattle.node_search.specs.declared.state.State.{State}
use Rattle.node_search.specs.States.{AnyFrom}
use Rattle.node_match.proofs.Sets.{gathered, gathered_all}
use Rattle.node_search.proofs.Steps.{first_state, no_state, from_none}
use Rattle.node_search.proofs.list.skip.Goals as goal

pub loop-state-init : goal.loop-state-init
loop-state-init c k l many ps b = from_none k l ps _ _ b c.new-next.ensures

pub loop-state-preserved : goal.loop-state-preserved
loop-state-preserved c k l many ps b =
    gathered _ _ _ _ _ _ (c.in_ok-pass.ensures k l many ps b) (first_state k l (None ∷ ps) _ _ _ b c.loop-state-test.true c.state-item.is) (c.loop-state.invariant k l many ps b)

pub returns : goal.returns
returns c k l many ps b =
    let P : List State → Type 0 = λ ss. AnyFrom k l ps c.loop-state.next b ↔ AnyFrom k l (None ∷ ps) ss b in
    subst P c.as_slice-state-items.ensures (gathered_all _ _ _ (no_state k l (None ∷ ps) _ _ b c.loop-state-test.false) (c.loop-state.invariant k l many ps b))
