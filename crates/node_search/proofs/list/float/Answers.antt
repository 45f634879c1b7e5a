use Rattle.std.proofs.Common.{List, ◌↔◌, ◌⊎◌, subst, drop, true}
use Rattle.meta_bind.specs.declared.bound.Bound.{Bound}
use Rattle.node_search.specs.declared.state.State.{State}
use Rattle.node_search.specs.States.{AnyFrom, Goes, IsCovered}
use Rattle.node_search.proofs.Steps.{put_from, covered}
use Rattle.node_search.proofs.list.float.Goals as goal

pub returns-then-is_covered : goal.returns-then-is_covered
returns-then-is_covered c k h ps b =
    let P : List State → Type 0 = λ xs. IsCovered xs c.args.at c.args.trail.now in
    covered k h ps c.args.states.now c.args.at c.args.trail.now b (subst P c.as_slice.ensures (c.is_covered.ensures c.if-is_covered.true))

pub returns : goal.returns
returns c k h ps b =
    let P : List Bound → Type 0 = λ t. AnyFrom k h ps c.put.new.states b ↔ (AnyFrom k h ps c.args.states.now b ⊎ Goes k true h.holder ps (drop c.args.at h.kids) t b) in
    subst P c.in_ok-copy.ensures (put_from k h _ _ _ c.in_ok-put.ensures ps b)
