use Rattle.std.proofs.Common.{◌↔◌, ◌⊎◌, List, drop, subst}
use Rattle.meta_bind.specs.declared.bound.Bound.{Bound}
use Rattle.node_tree.specs.Numbers.{kids_at}
use Rattle.node_pool.specs.Spots.{seen}
use Rattle.node_match.specs.Fronts.{Leads}
use Rattle.node_match.proofs.Sets.{plus_as}
use Rattle.node_search.specs.States.{line_of, AnyFrom}
use Rattle.node_search.proofs.Steps.{put_from}
use Rattle.tree_match.proofs.last_states.add_last.Goals as goal

pub returns : goal.returns
returns c k ps e single many all =
    let h = seen c.args.holder in
    let P : List Bound → Type 0 = λ t. AnyFrom k (line_of h) ps c.put.new.states e ↔ (AnyFrom k (line_of h) ps c.args.states.now e ⊎ Leads k h ps (drop c.in-Some.at (kids_at h)) t e) in
    plus_as _ _ _ _ (subst P c.in_ok-copy.ensures (put_from k (line_of h) _ _ _ c.in_ok-put.ensures ps e)) (c.in-Some.ensures k ps e single many all)
