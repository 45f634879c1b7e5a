use Rattle.std.proofs.Common.{rules, ◌≤◌, take, arith}
use Rattle.node_tree.specs.Tree.{depth_of}
use Rattle.py_expr.specs.reader.Reading.{one}
use Rattle.py_expr.proofs.Prefix.{IsCut, tree_of_all, tree_of_left, left_of_mode, few_left, end_within}
use Rattle.py_expr.proofs.Runs.{read_is_tree, tree_is_read, one_tree, tree_is_shallow, fails_still, leb_true, same_answer}
use Rattle.py_expr.proofs.run.read_items.Goals as goal

pub returns-in_err-node-clause-only : goal.returns-in_err-node-clause-only
returns-in_err-node-clause-only c = λ mode n to all r.
    let cut : IsCut c.args.items.now c.args.from c.shallow_end.result = record { ordered = c.shallow_end.ensures.ordered; within = c.shallow_end.ensures.within; many = c.shallow_end.ensures.many } in
    let left : _ = tree_of_left mode c.args.items.now c.args.level c.args.from c.shallow_end.result n to cut r in
    let h : _ = fails_still one c.in_err-node.field-0.0 _ (one (n, to)) (n, to) c.in_err-node.ensures.gives (tree_is_read mode (take c.shallow_end.result c.args.items.now) c.args.level c.args.from n to (left_of_mode mode c.args.items.now c.shallow_end.result all) left) in
    search (rules, h)

pub returns-then-not-is_shallow-clause-only : goal.returns-then-not-is_shallow-clause-only
returns-then-not-is_shallow-clause-only c = λ mode n to all r.
    let cut : IsCut c.args.items.now c.args.from c.shallow_end.result = record { ordered = c.shallow_end.ensures.ordered; within = c.shallow_end.ensures.within; many = c.shallow_end.ensures.many } in
    let left : _ = tree_of_left mode c.args.items.now c.args.level c.args.from c.shallow_end.result n to cut r in
    let d : depth_of c.in_ok-node.node ≤ 500 = rw (one_tree mode (take c.shallow_end.result c.args.items.now) c.args.level c.args.from n c.in_ok-node.node to c.in_ok-node.end (left_of_mode mode c.args.items.now c.shallow_end.result all) left c.in_ok-node.ensures.gives).0 at (tree_is_shallow mode (take c.shallow_end.result c.args.items.now) c.args.level c.args.from n to left) in
    grind (arith, d)

pub returns-clause-found : goal.returns-clause-found
returns-clause-found c = λ mode.
    let cut : IsCut c.args.items.now c.args.from c.shallow_end.result = record { ordered = c.shallow_end.ensures.ordered; within = c.shallow_end.ensures.within; many = c.shallow_end.ensures.many } in
    tree_of_all mode c.args.items.now c.args.level c.args.from c.shallow_end.result _ _ cut
    (read_is_tree mode (take c.shallow_end.result c.args.items.now) c.args.level c.args.from _ _ c.in_ok-node.ensures.gives c.in_ok-node.ensures.within (leb_true _ _ (grind arith))
    (λ k a b. let lt : _ = end_within c.args.items.now c.shallow_end.result c.in_ok-node.end k b c.in_ok-node.ensures.within in few_left c.args.items.now c.args.from c.shallow_end.result k lt (c.shallow_end.ensures.few k a lt)))

pub returns-clause-only : goal.returns-clause-only
returns-clause-only c = λ mode n to all r.
    let cut : IsCut c.args.items.now c.args.from c.shallow_end.result = record { ordered = c.shallow_end.ensures.ordered; within = c.shallow_end.ensures.within; many = c.shallow_end.ensures.many } in
    let left : _ = tree_of_left mode c.args.items.now c.args.level c.args.from c.shallow_end.result n to cut r in
    same_answer _ _ _ _ (one_tree mode (take c.shallow_end.result c.args.items.now) c.args.level c.args.from n c.in_ok-node.node to c.in_ok-node.end (left_of_mode mode c.args.items.now c.shallow_end.result all) left c.in_ok-node.ensures.gives)
