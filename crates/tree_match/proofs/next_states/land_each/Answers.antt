use Rattle.std.proofs.Common.{◌↔◌, List, drop, subst}
use Rattle.node_pool.specs.Spots.{seen}
use Rattle.node_match.specs.Free.{parts_of}
use Rattle.node_match.proofs.Sets.{gathered, gathered_all}
use Rattle.node_search.specs.declared.state.State.{State}
use Rattle.node_search.specs.States.{line_of, AnyFrom}
use Rattle.node_search.proofs.Steps.{first_state, no_state}
use Rattle.tree_match.proofs.next_states.land_each.Goals as goal

pub loop-state-preserved : goal.loop-state-preserved
loop-state-preserved c e =
    let C = c.args.search.known.names.now in
    let l = line_of (seen c.args.search.holder.spot) in
    let ps = drop c.args.at (parts_of c.args.search.pattern.now) in
    gathered _ _ _ _ _ _ (c.in_ok-land.ensures e) (first_state C l ps _ _ _ e c.loop-state-test.true c.state-item.is) (c.loop-state.invariant e)

pub returns : goal.returns
returns c e =
    let C = c.args.search.known.names.now in
    let l = line_of (seen c.args.search.holder.spot) in
    let ps = drop c.args.at (parts_of c.args.search.pattern.now) in
    let P : List State → Type 0 = λ ss. AnyFrom C l ps c.loop-state.landed e ↔ AnyFrom C l ps ss e in
    subst P c.as_slice-state-items.ensures (gathered_all _ _ _ (no_state C l ps _ _ e c.loop-state-test.false) (c.loop-state.invariant e))
