use Rattle.std.proofs.Common.{◌↔◌, ◌⊎◌, map, sym, ◌∙◌}
use Rattle.node_match.proofs.Sets.{gathered, gathered_all, plus_as}
use Rattle.range_algebra.specs.Trees.{branch_of, branches_of}
use Rattle.range_algebra.proofs.Gathering.{adds_whole, in_focus, focus_left, focus_end}
use Rattle.range_algebra.proofs.all.add_shown.Goals as goal

pub returns-then-not-has_focus : goal.returns-then-not-has_focus
returns-then-not-has_focus c = adds_whole (branches_of (map branch_of c.args.children.now)) c.args.one.now c.in_ok-copy.field-0 _ _ (sym c.has_focus.ensures ∙ c.if-not-has_focus.true) c.in_ok-copy.ensures c.in_ok-push.ensures.items

pub loop-child-preserved : goal.loop-child-preserved
loop-child-preserved c m =
    gathered _ _ _ _ _ _ (c.in_ok-add_focused.ensures m) (focus_left c.args.children.now c.loop-child.child-index c.child-item.result c.args.one.now m c.loop-child-test.true c.child-item.is) (c.loop-child.invariant m)

pub returns : goal.returns
returns c m =
    plus_as _ _ _ _ (gathered_all _ _ _ (focus_end c.args.children.now c.loop-child.child-index c.args.one.now m c.loop-child-test.false) (c.loop-child.invariant m))
    (in_focus (branches_of (map branch_of c.args.children.now)) c.args.one.now m (sym c.has_focus.ensures ∙ c.if-not-has_focus.false))
