use Rattle.std.proofs.Common.{subst}
use Rattle.node_tree.specs.declared.node.Node.{Node}
use Rattle.taint_flow.specs.Sizes.{NoneLarge}
use Rattle.taint_judge.proofs.shared_flow.SharedFlow.is_idle.Goals as goal

pub returns-then-is_idle-clause-hits : goal.returns-then-is_idle-clause-hits
returns-then-is_idle-clause-hits c idle = c.is_idle.ensures.hits c.args.self.now c.if-is_idle.true

pub returns-then-is_idle-clause-fits : goal.returns-then-is_idle-clause-fits
returns-then-is_idle-clause-fits c idle =
    let P : Node → Type 0 = λ root. NoneLarge root c.args.sets.now in
    subst P c.self.view_is (c.is_idle.ensures.fits c.self.inside.root.now c.bounds_of-bounds.ensures.bounds c.if-is_idle.true)

pub returns-clause-fits : goal.returns-clause-fits
returns-clause-fits c idle =
    let P : Node → Type 0 = λ root. NoneLarge root c.args.sets.now in
    subst P c.self.view_is (c.is_idle-2.ensures.fits c.self.inside.root.now c.in_ok-closer.ensures.bounds idle)
