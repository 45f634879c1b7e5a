use Rattle.std.proofs.Common.{List, sym, subst}
use Rattle.node_tree.specs.declared.node.Node.{Node}
use Rattle.unit_names.specs.declared.scope.Scope.{Scope}
use Rattle.unit_names.specs.Scopes.{AreScopes}
use Rattle.taint_judge.proofs.flow_tree.FlowTree.units.Goals as goal

pub returns : goal.returns
returns c =
    let P : Node → Type 0 = λ root. AreScopes root c.self.inside.units in
    let Q : List Scope → Type 0 = AreScopes c.args.self.now in
    subst Q (sym c.as_slice.ensures) (subst P c.self.view_is c.self.invariant.units_are)
