use Rattle.std.proofs.Common.{◌∙◌, subst}
use Rattle.std.specs.Prelude.{IfOk}
use Rattle.node_tree.specs.declared.node.Node.{Node}
use Rattle.taint_flow.specs.Sizes.{NoneLarge}
use Rattle.taint_judge.proofs.shared_flow.SharedFlow.hits.Goals as goal

pub returns-clause-fits : goal.returns-clause-fits
returns-clause-fits c =
    let P : Node → Type 0 = λ root. IfOk c.hits_by.result (λ _. NoneLarge root c.args.sets.now) in
    subst P (c.self.view_is ∙ c.is_idle.ensures.kept) c.hits_by.ensures.fits
