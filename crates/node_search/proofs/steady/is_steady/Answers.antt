use Rattle.std.proofs.Common.{◌∙◌, sym, inr, subst, List}
use Rattle.node_tree.specs.declared.node.Node.{Node}
use Rattle.node_match.specs.Sets.{Among}
use Rattle.node_search.proofs.SteadyLaws.{steady_next, steady_all}
use Rattle.node_search.proofs.steady.is_steady.Goals as goal

pub loop-node-init : goal.loop-node-init
loop-node-init c n a = let P : List Node → Type 0 = λ xs. Among xs n in inr (subst P (sym (c.into_iter-node-iterator.ensures.into_iter_gives ∙ c.in_ok-node-items.ensures)) a)

pub loop-node-preserved : goal.loop-node-preserved
loop-node-preserved c = steady_next _ _ _ _ _ c.loop-node.invariant c.in-Some.ensures.steps (c.binds_nothing.ensures c.if-not-binds_nothing.false)

pub returns : goal.returns
returns c _ = steady_all _ _ _ c.loop-node.invariant c.in-None.ensures.steps.0
