use Rattle.std.proofs.Common.{arith, subst, drop, List, ◌+◌, ◌↔◌, ◌⊎◌}
use Rattle.meta_bind.specs.declared.bound.Bound.{Bound}
use Rattle.node_search.specs.States.{AnyFrom, Goes}
use Rattle.node_match.proofs.Sets.{plus_as, plus_none}
use Rattle.node_search.proofs.Steps.{put_from, free_goes, no_free}
use Rattle.node_search.proofs.list.pass.Goals as goal

pub returns-in_ok-put : goal.returns-in_ok-put
returns-in_ok-put c k l many ps b =
    let s = c.args.state.now in
    let P : List Bound → Type 0 = λ t. AnyFrom k l ps c.put.new.states b ↔ (AnyFrom k l ps c.args.next.now b ⊎ Goes k s.floating l.holder ps (drop (s.at + 1) l.kids) t b) in
    plus_as _ _ _ _ (subst P c.in_ok-copy.ensures (put_from k l _ _ _ c.in_ok-put.ensures ps b)) (free_goes k l.holder ps l.kids s.trail b s.at s.floating (omega (arith, c.if-state-end.true, many)))

pub returns-else-state-end : goal.returns-else-state-end
returns-else-state-end c k l many ps b =
    let s = c.args.state.now in
    plus_none _ _ (no_free k l.holder ps l.kids s.trail b s.at s.floating (omega (arith, c.if-state-end.false, many)))
