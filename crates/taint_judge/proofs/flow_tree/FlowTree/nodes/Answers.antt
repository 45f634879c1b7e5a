use Rattle.std.proofs.Common.{◌≡◌, subst}
use Rattle.node_tree.specs.declared.node.Node.{Node}
use Rattle.node_tree.specs.Tree.{pre_of}
use Rattle.taint_judge.proofs.flow_tree.FlowTree.nodes.Goals as goal

pub returns : goal.returns
returns c =
    let P : Node → Type 0 = λ root. c.self.inside.nodes ≡ pre_of root in
    subst P c.self.view_is c.self.invariant.nodes_are
