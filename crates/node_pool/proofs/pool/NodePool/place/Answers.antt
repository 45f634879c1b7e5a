use Rattle.std.proofs.Common.{arith, ◌∙◌, ap, ◌++◌, List}
use Rattle.node_tree.specs.declared.node.Node.{Node}
use Rattle.node_tree.specs.Tree.{pre_of}
use Rattle.node_pool.specs.Pool.{Pool}
use Rattle.node_pool.proofs.Placing.{pool_more, nodes_more}
use Rattle.node_pool.proofs.pool.NodePool.place.Goals as goal

pub overflow_cast-first : goal.overflow_cast-first
overflow_cast-first c = omega (arith, c.len-first.ensures, c.self.invariant.fits, c.self.invariant.small, c.self.inside.entries.ok.0)

pub put-requires-clause-fits : goal.put-requires-clause-fits
put-requires-clause-fits c = omega (arith, c.requires, ap (λ (p : Pool). p.spare) c.self.view_is, c.self.invariant.small)

pub invariant_of-self : goal.invariant_of-self
invariant_of-self c =
    pool_more _ _ _ _ _ _ c.self.invariant c.put.ensures.entries (omega (arith, c.requires, ap (λ (p : Pool). p.spare) c.self.view_is, c.self.invariant.fits)) c.put.ensures.memory

pub returns-clause-nodes : goal.returns-clause-nodes
returns-clause-nodes c = nodes_more _ _ _ c.put.ensures.entries ∙ ap (λ (ns : List Node). ns ++ pre_of c.args.tree.now) (ap (λ (p : Pool). p.nodes) c.self.view_is)
