use Rattle.std.proofs.Common.{◌≡◌, ◌∙◌, List, get_or, sym, subst}
use Rattle.node_tree.specs.declared.node.Node.{Node}
use Rattle.tree_match.proofs.LeftLaws.{named_left}
use Rattle.tree_match.proofs.stepping.is_passed.Goals as goal

pub returns : goal.returns
returns c so =
    let s = c.args.search in
    let part = c.index-as_slice-at.result in
    let P : List Node → Type 0 = λ xs. part ≡ get_or xs c.args.at part in
    named_left s.unnamed s.pattern.now c.args.at part c.if-not-search.false c.requires (subst P c.as_slice.ensures c.index-as_slice-at.is) (sym c.is_named.ensures ∙ so)
