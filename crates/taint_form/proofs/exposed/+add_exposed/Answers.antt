use Rattle.std.proofs.Common.{◌≡◌, ◌++◌, List, false, true, ap, sym, ◌∙◌, append_assoc}
use Rattle.std.specs.List.{flat_map}
use Rattle.node_tree.specs.declared.node.Node.{Node}
use Rattle.node_tree.specs.Tree.{kids_of}
use Rattle.taint_form.specs.Expressions.{exposed, shown, opens, nodes_now}
use Rattle.taint_form.proofs.Folds.{exposed_shut, exposed_open, kids_more, kids_done}
use Rattle.taint_form.proofs.exposed.+add_exposed.Goals as goal

pub returns-then-not-branch : goal.returns-then-not-branch
returns-then-not-branch t c spans holds =
    let n : Node = c.args.node.now in
    let shut : opens spans n ≡ false = sym (c.in_ok-enter.ensures.opens spans holds) ∙ c.if-not-branch.true in
    c.in_ok-enter.ensures.shown spans holds ∙ ap (λ ms. nodes_now c.args.into.now ++ ms) (sym (exposed_shut spans n shut))

pub returns : goal.returns
returns t c spans holds =
    let n : Node = c.args.node.now in
    let below : List Node = flat_map (exposed spans) (kids_of n) in
    let opened : opens spans n ≡ true = sym (c.in_ok-enter.ensures.opens spans holds) ∙ c.if-not-branch.false in
    let done = kids_done (exposed spans) c.as_slice-kid-items.result.now (kids_of n) c.loop-kid.kid-index _ _ c.loop-kid-test.false c.as_slice-kid-items.ensures (c.loop-kid.invariant spans holds) in
    done ∙ ap (λ ms. ms ++ below) (c.in_ok-enter.ensures.shown spans holds) ∙ append_assoc (nodes_now c.args.into.now) (shown spans n) below
    ∙ ap (λ ms. nodes_now c.args.into.now ++ ms) (sym (exposed_open spans n opened))

pub loop-kid-preserved : goal.loop-kid-preserved
loop-kid-preserved t c spans holds =
    kids_more (exposed spans) c.as_slice-kid-items.result.now c.loop-kid.kid-index c.kid-item.result _ _ _ c.loop-kid-test.true c.kid-item.is (c.loop-kid.invariant spans holds) (c.in_ok-add_exposed.ensures spans holds)
