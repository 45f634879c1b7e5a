use Rattle.std.proofs.Common.{List, [], ◌∷◌, ◌++◌, ap, ◌∙◌}
use Rattle.meta_bind.specs.declared.bound.Bound.{Bound}
use Rattle.node_match.proofs.Sets.{gathered, pushed}
use Rattle.range_algebra.proofs.Children.{among_left}
use Rattle.range_algebra.proofs.evaluate.add_all.Goals as goal

pub loop-range-preserved : goal.loop-range-preserved
loop-range-preserved c m =
    let added = c.in_ok-push.ensures.items ∙ ap (λ (b : List Bound). c.loop-range.members.items ++ (c.loop-range-item.result.0, b) ∷ []) c.in_ok-copy.ensures in
    gathered _ _ _ _ _ _ (pushed c.loop-range.members.items c.push.new.self.items c.loop-range-item.result added m)
    (among_left c.args.set.now c.loop-range.range-index c.loop-range-item.result m c.loop-range-test.true c.loop-range-item.is) (c.loop-range.invariant m)
