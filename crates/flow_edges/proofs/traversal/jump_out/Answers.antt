use Rattle.std.proofs.Common.{◌++◌, ◌∷◌, [], ap, ◌∙◌, subst, List}
use Rattle.std.specs.Prelude.{OnOk}
use Rattle.graph_form.specs.declared.graph.Point.{Point}
use Rattle.flow_edges.specs.Flow.{head, hop, Into}
use Rattle.flow_edges.specs.Grows.{Adds}
use Rattle.flow_edges.proofs.traversal.jump_out.Goals as goal

pub returns : goal.returns
returns c =
    let route = c.in_ok-push.ensures.ok ∙ ap (λ r. r ++ c.in_ok-alone.field-0 ∷ []) c.in_ok-route.ensures ∙ ap (λ p. c.args.around.now.finals ++ p ∷ []) c.in_ok-alone.ensures in
    let P : List Point → Type 0 = λ ps. OnOk c.into.result (Adds c.args.out.now c.into.new.out (Into c.head_of.result ps)) in
    let Q : Point → Type 0 = λ p. OnOk c.into.result (Adds c.args.out.now c.into.new.out (Into p (hop (c.args.around.now.finals ++ (c.args.target ∷ []) ∷ [])))) in
    subst Q c.head_of.ensures (subst P (c.first_hop.ensures ∙ ap hop route) c.into.ensures)
