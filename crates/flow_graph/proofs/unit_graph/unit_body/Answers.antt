use Rattle.std.proofs.Common.{◌≡◌, ◌-◌, ◌∙◌, ap, sym, subst, arith, ℕ, List, Some, IfOk}
use Rattle.std.specs.Prelude.{slice_get, Option}
use Rattle.node_tree.specs.declared.node.Node.{Node}
use Rattle.node_tree.specs.Numbers.{siblings}
use Rattle.node_tree.specs.Tree.{pre_of}
use Rattle.flow_graph.specs.Units.{body_of, body_at}
use Rattle.flow_graph.proofs.Walks.{body_is}
use Rattle.flow_graph.proofs.unit_graph.unit_body.Goals as goal

pub returns-then-at-unit : goal.returns-then-at-unit
returns-then-at-unit c =
    let zero_left : c.args.unit - c.loop-node.at ≡ 0 = omega (arith, c.if-at-unit.true) in
    let got : slice_get (pre_of c.args.root.now) c.args.unit ≡ Some c.in-Some.node.now =
    c.loop-node.invariant.left ∙ ap (slice_get c.loop-node.walk) zero_left ∙ ap (λ (ns : List Node). slice_get ns 0) c.in-Some.ensures.steps in
    let is = body_is c.args.root.now c.args.unit c.if-unit-eq0.false ∙ ap (body_at c.args.unit) got in
    let P = λ (b : _). IfOk c.function_body.result (λ p. siblings p.start p.nodes.now ≡ b) in
    subst P (sym is) c.function_body.ensures
