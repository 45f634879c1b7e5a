use Rattle.std.proofs.Common.{◌≡◌, subst}
use Rattle.std.specs.Prelude.{IfOk, IfSome, Option}
use Rattle.node_tree.specs.declared.node.Node.{Node}
use Rattle.taint_flow.specs.Sizes.{NoneLarge}
use Rattle.taint_judge.proofs.shared_flow.hits_by.Goals as goal

pub returns-in-Some-clause-fits : goal.returns-in-Some-clause-fits
returns-in-Some-clause-fits c =
    let Q : Option Node → Type 0 = λ made. IfSome made (λ tree. tree ≡ c.args.root.now) in
    let P : Node → Type 0 = λ root. IfOk c.hits.result (λ _. NoneLarge root c.args.sets.now) in
    subst P (subst Q c.in-Some.is c.requires) c.hits.ensures.fits

pub returns-clause-fits : goal.returns-clause-fits
returns-clause-fits c =
    let P : Node → Type 0 = λ root. IfOk c.hits-hits.result (λ _. NoneLarge root c.args.sets.now) in
    subst P c.in_ok-tree.ensures c.hits-hits.ensures.fits
