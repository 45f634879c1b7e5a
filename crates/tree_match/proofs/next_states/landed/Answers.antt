use Rattle.node_match.proofs.Sets.{chain}
use Rattle.tree_match.proofs.LeftLaws.{all_from}
use Rattle.tree_match.proofs.next_states.landed.Goals as goal

pub returns : goal.returns
returns c e =
    let s = c.args.search in
    let C = s.known.names.now in
    let old = all_from s c.args.at c.args.states C e c.if-search.false in
    let new = all_from s c.args.at _ C e c.if-search.false in
    chain _ _ _ (new.1, new.0) (chain _ _ _ (c.in_ok-landed.ensures e) old)
