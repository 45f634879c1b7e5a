use Rattle.std.proofs.Common.{◌≡◌, ◌+◌, List, get_or, subst}
use Rattle.node_tree.specs.declared.node.Node.{Node}
use Rattle.node_search.specs.Kids.{line}
use Rattle.node_match.proofs.Sets.{chain}
use Rattle.tree_match.proofs.LeftLaws.{step_left, all_from}
use Rattle.tree_match.proofs.stepping.stepped.Goals as goal

pub returns-then-search : goal.returns-then-search
returns-then-search c e =
    let s = c.args.search in
    let part = c.index-as_slice-at.result in
    let P : List Node → Type 0 = λ xs. part ≡ get_or xs c.args.at part in
    step_left s.unnamed s.pattern.now c.args.at part c.if-search.true c.requires (subst P c.as_slice.ensures c.index-as_slice-at.is) s.known.names.now (line s.holder) c.args.states _ e (λ qs. c.in_ok-next.ensures qs e)

pub returns : goal.returns
returns c e =
    let s = c.args.search in
    let C = s.known.names.now in
    let old = all_from s c.args.at c.args.states C e c.if-search.false in
    let new = all_from s (c.args.at + 1) _ C e c.if-search.false in
    chain _ _ _ (new.1, new.0) (chain _ _ _ (c.in_ok-next-2.ensures e) old)
