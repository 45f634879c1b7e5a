use Rattle.std.proofs.Common.{◌≡◌, ◌++◌, [], ◌∷◌, ap, sym, ◌∙◌}
use Rattle.std.proofs.lemmas.List.{map-append}
use Rattle.std.specs.List.{flat_map}
use Rattle.std.specs.Borrow.{Bor}
use Rattle.node_tree.specs.declared.node.Node.{Node}
use Rattle.node_tree.specs.Tree.{kids_of}
use Rattle.taint_form.specs.Expressions.{outermost, nodes_now}
use Rattle.taint_form.proofs.Folds.{outermost_here, outermost_none, outermost_below, kids_more, kids_done}
use Rattle.taint_form.proofs.exposed.+add_outermost.Goals as goal
use Rattle.taint_form.proofs.exposed.+add_outermost.Goals.{then-is_expression+else-lies_in, else-is_expression}

pub returns-then-lies_in : goal.returns-then-lies_in
returns-then-lies_in t c =
    let n : Node = c.args.node.now in
    ap nodes_now c.in_ok-push.ensures.ok ∙ map-append (λ (m : Bor Node). m.now) c.args.into.now (c.args.node ∷ [])
    ∙ ap (λ ms. nodes_now c.args.into.now ++ ms) (sym (outermost_here c.args.range n (sym c.is_expression.ensures ∙ c.if-is_expression.true) (sym c.lies_in.ensures ∙ c.if-lies_in.true)))

pub returns : goal.returns
returns t c =
    let n : Node = c.args.node.now in
    let done = kids_done (outermost c.args.range) c.as_slice-kid-items.result.now (kids_of n) c.loop-kid.kid-index _ _ c.loop-kid-test.false c.as_slice-kid-items.ensures c.loop-kid.invariant in
    let is : outermost c.args.range n ≡ flat_map (outermost c.args.range) (kids_of n) = elim c.if-is_expression.branch [
      | then-is_expression+else-lies_in w ↦ outermost_below c.args.range n (sym w.lies_in.ensures ∙ w.if-lies_in.false)
      | else-is_expression w ↦ outermost_none c.args.range n (sym c.is_expression.ensures ∙ w.if-is_expression.false)
    ] in
    done ∙ ap (λ ms. nodes_now c.args.into.now ++ ms) (sym is)

pub loop-kid-preserved : goal.loop-kid-preserved
loop-kid-preserved t c =
    kids_more (outermost c.args.range) c.as_slice-kid-items.result.now c.loop-kid.kid-index c.kid-item.result _ _ _ c.loop-kid-test.true c.kid-item.is c.loop-kid.invariant c.in_ok-add_outermost.ensures
