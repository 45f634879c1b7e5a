use Rattle.std.proofs.Common.{[], ap, ◌∙◌}
use Rattle.std.proofs.lemmas.List.{take_all}
use Rattle.node_tree.specs.Numbers.{Numbered}
use Rattle.node_pool.specs.Spots.{seen, all_seen}
use Rattle.point_nodes.proofs.Parts.{flat_more}
use Rattle.taint_form.specs.Expressions.{nodes_now, outermost}
use Rattle.taint_plan.specs.SinkGoals.{outermost_among}
use Rattle.taint_plan.proofs.goals.outermost.Goals as goal

pub loop-top-init : goal.loop-top-init
loop-top-init c = ap nodes_now c.new-outer.ensures

pub loop-top-preserved : goal.loop-top-preserved
loop-top-preserved c =
    flat_more seen (λ (top : Numbered). outermost c.args.range top.node) c.args.heads.now c.loop-top.top-index c.top-item.result [] (nodes_now c.loop-top.outer) (nodes_now c.add_outermost.new.into)
    c.loop-top-test.true c.top-item.is c.loop-top.invariant c.in_ok-add_outermost.ensures

pub returns : goal.returns
returns c = c.loop-top.invariant ∙ ap (λ xs. outermost_among c.args.range (all_seen xs)) (take_all c.loop-top.top-index c.args.heads.now c.loop-top-test.false)
