use Rattle.tree_match.proofs.Pres.{some_nodes}
use Rattle.file_match.proofs.tree.leaf_in_tree.Goals as goal

pub root_in-root-requires : goal.root_in-root-requires
root_in-root-requires c = some_nodes _ c.tree.inside.tree.now c.tree.invariant.placed
