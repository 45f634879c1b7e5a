use Rattle.std.proofs.Common.{subst}
use Rattle.node_tree.specs.Numbers.{Numbered}
use Rattle.tree_match.specs.Members.{MemberUnder}
use Rattle.tree_match.specs.Leaf.{IsLeaf}
use Rattle.tree_match.proofs.Pres.{some_nodes}
use Rattle.file_match.proofs.answer.leaf_of.Goals as goal

pub root_in-root-requires : goal.root_in-root-requires
root_in-root-requires c = some_nodes _ c.args.tree.now c.in_ok-pool.ensures

pub returns : goal.returns
returns c =
    let P : Numbered → Type 0 = λ s. IsLeaf (MemberUnder c.args.known.names.now c.args.shape c.args.pattern.now s) c.in_ok-leaf.leaf in
    subst P (c.root_in-root.ensures c.args.tree.now c.in_ok-pool.ensures) c.in_ok-leaf.ensures
