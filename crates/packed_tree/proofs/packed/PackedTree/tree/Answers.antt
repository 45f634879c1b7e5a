use Rattle.packed_tree.proofs.OneTree.{read_tree}
use Rattle.packed_tree.proofs.packed.PackedTree.tree.Goals as goal

pub returns : goal.returns
returns c = read_tree _ c.self.inside.is_of _ _ c.tree.result c.tree.ensures.read c.as_slice.ensures.value c.args.self.now c.self.view_is
