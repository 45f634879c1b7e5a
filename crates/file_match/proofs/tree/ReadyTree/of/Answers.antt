use Rattle.tree_match.proofs.Pres.{some_nodes}
use Rattle.file_match.proofs.tree.ReadyTree.of.Goals as goal

pub root_in-root-requires : goal.root_in-root-requires
root_in-root-requires c = some_nodes _ c.args.tree.now c.in_ok-pool.ensures
