use Rattle.std.proofs.Common.{◌≡◌, ◌∙◌, ap, sym, List, [], ◌∷◌, Some}
use Rattle.std.specs.Prelude.{slice_get}
use Rattle.std.specs.Option.{unwrap_or}
use Rattle.node_tree.specs.declared.node.Node.{Node}
use Rattle.node_tree.specs.Numbers.{root_of, siblings}
use Rattle.node_tree.specs.Tree.{pre_of}
use Rattle.node_tree.proofs.Trees.{pre_is}
use Rattle.flow_graph.specs.Units.{body_of}
use Rattle.flow_graph.proofs.unit_graph.body_in.Goals as goal

pub returns-then-unit-eq0 : goal.returns-then-unit-eq0
returns-then-unit-eq0 c root at =
    let zero = c.if-unit-eq0.true in
    let got = sym (ap (λ (ns : List Node). slice_get ns 0) (pre_is root)) ∙ sym (ap (slice_get (pre_of root)) zero) ∙ at in
    let same : root ≡ c.args.node.now = ap (λ o. unwrap_or o root) got in
    ap (siblings 0) c.from_ref.ensures.value ∙ ap (λ (n : Node). root_of n ∷ []) (sym same) ∙ sym (ap (body_of root) zero)
