use Rattle.std.proofs.Common.{arith, ◌<◌, List, ◌∷◌, [], length, ap, sym, subst, ◌∙◌, vec_capacity}
use Rattle.node_tree.specs.declared.node.Node.{Node}
use Rattle.node_tree.specs.Tree.{depth_is, kids_of}
use Rattle.node_tree.specs.Walk.{HasRoom, with_list, slices}
use Rattle.node_tree.proofs.Stack.{kids_positive, room_of_kids}
use Rattle.node_tree.proofs.node.Node.unit_nodes.Goals as goal

pub put-requires : goal.put-requires
put-requires c = λ some. omega (arith, kids_positive c.args.self.now c.as_slice.result.now c.as_slice.ensures some, c.in_ok-stack.ensures.len, c.in_ok-stack.ensures.exact, c.in-Some.ensures)

pub invariant_of-result : goal.invariant_of-result
invariant_of-result c =
    let P : List (List Node) → Type 0 = λ ss. HasRoom (vec_capacity c.put.new.stack) ss in
    let empty = ap slices c.in_ok-stack.ensures.items in
    subst P (sym (c.put.ensures.items ∙ ap (λ (ss : List (List Node)). with_list ss c.as_slice.result.now) empty))
    (room_of_kids c.args.self.now c.as_slice.result.now (vec_capacity c.put.new.stack) c.as_slice.ensures (omega (arith, c.put.ensures.room, c.in_ok-stack.ensures.exact, c.in-Some.ensures)))
