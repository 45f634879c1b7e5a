use Rattle.std.proofs.Common.{ap, sym, ◌∙◌, arith, subst, List, ◌+◌}
use Rattle.node_tree.specs.declared.node.Node.{Node}
use Rattle.node_tree.specs.Tree.{kids_of}
use Rattle.node_pool.specs.Preorder.{AreAt}
use Rattle.node_pool.specs.Runs.{runs_of}
use Rattle.node_pool.proofs.Placing.{kids_here, one_at}
use Rattle.node_pool.proofs.pool.NodePool.runs.Goals as goal

pub overflow_add-at : goal.overflow_add-at
overflow_add-at c = omega (arith, c.requires, c.node-node.ensures.small)

pub from-requires-clause-stand : goal.from-requires-clause-stand
from-requires-clause-stand c =
    let P : List Node → Type 0 = λ ks. AreAt c.args.self.now.nodes (c.args.at + 1) ks in
    subst P (sym c.as_slice.ensures) (kids_here _ _ _ c.requires c.node-node.ensures.is c.node-node.ensures.below)

pub returns : goal.returns
returns c n is =
    c.from.ensures ∙ ap (runs_of (c.args.at + 1)) (c.as_slice.ensures ∙ ap kids_of (one_at _ _ _ n c.requires c.node-node.ensures.is is))
