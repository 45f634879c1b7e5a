use Rattle.std.proofs.Common.{rules, ◌≡◌, ◌≤◌, ℕ, take, arith, ap}
use Rattle.node_tree.specs.declared.node.Node.{Node}
use Rattle.c_expr.specs.declared.part.Part.{Part}
use Rattle.c_expr.specs.reader.Reading.{one}
use Rattle.c_expr.proofs.Prefix.{IsCut, tree_of_all, tree_of_left, left_of_mode, few_left, end_within}
use Rattle.c_expr.proofs.Runs.{read_is_tree, tree_is_read, one_tree, tree_is_shallow, fails_still, same_answer}
use Rattle.c_expr.proofs.read.read_run.Goals as goal

pub returns-clause-found : goal.returns-clause-found
returns-clause-found c = λ mode.
    let cut : IsCut c.args.tokens.now c.args.from c.shallow_end.result = record { ordered = c.shallow_end.ensures.ordered; within = c.shallow_end.ensures.within; many = c.shallow_end.ensures.many } in
    tree_of_all mode c.args.tokens.now c.args.level c.args.from c.shallow_end.result _ _ cut
    (read_is_tree mode (take c.shallow_end.result c.args.tokens.now) c.args.level c.args.from c.in_ok-part.part c.in_ok-part.end c.in_ok-part.ensures.gives c.in_ok-part.ensures.within (grind arith)
    (λ k a b. let lt : _ = end_within c.args.tokens.now c.shallow_end.result c.in_ok-part.end k b c.in_ok-part.ensures.within in few_left c.args.tokens.now c.args.from c.shallow_end.result k lt (c.shallow_end.ensures.few k a lt)))

pub returns-clause-only : goal.returns-clause-only
returns-clause-only c = λ mode n to all r.
    let cut : IsCut c.args.tokens.now c.args.from c.shallow_end.result = record { ordered = c.shallow_end.ensures.ordered; within = c.shallow_end.ensures.within; many = c.shallow_end.ensures.many } in
    let left : _ = tree_of_left mode c.args.tokens.now c.args.level c.args.from c.shallow_end.result n to cut r in
    let e : _ = one_tree mode (take c.shallow_end.result c.args.tokens.now) c.args.level c.args.from n c.in_ok-part.part to c.in_ok-part.end (left_of_mode mode c.args.tokens.now c.shallow_end.result all) left c.in_ok-part.ensures.gives in
    same_answer _ _ _ _ _ _ e.0 e.1

pub returns-in_err-part-clause-only : goal.returns-in_err-part-clause-only
returns-in_err-part-clause-only c = λ mode n to all r.
    let cut : IsCut c.args.tokens.now c.args.from c.shallow_end.result = record { ordered = c.shallow_end.ensures.ordered; within = c.shallow_end.ensures.within; many = c.shallow_end.ensures.many } in
    let left : _ = tree_of_left mode c.args.tokens.now c.args.level c.args.from c.shallow_end.result n to cut r in
    let q : Part = record { node = n; depth = left.depth } in
    let h : _ = fails_still {Z = Node × ℕ} one c.in_err-part.field-0.0 _ (one (q, to)) (n, to) c.in_err-part.ensures.gives (tree_is_read mode (take c.shallow_end.result c.args.tokens.now) c.args.level c.args.from n to (left_of_mode mode c.args.tokens.now c.shallow_end.result all) left) in
    search (rules, h)

pub returns-then-part-gt-MOST_DEEP-clause-only : goal.returns-then-part-gt-MOST_DEEP-clause-only
returns-then-part-gt-MOST_DEEP-clause-only c = λ mode n to all r.
    let cut : IsCut c.args.tokens.now c.args.from c.shallow_end.result = record { ordered = c.shallow_end.ensures.ordered; within = c.shallow_end.ensures.within; many = c.shallow_end.ensures.many } in
    let left : _ = tree_of_left mode c.args.tokens.now c.args.level c.args.from c.shallow_end.result n to cut r in
    let d : left.depth ≡ c.in_ok-part.part.depth = ap (λ (p : Part). p.depth) (one_tree mode (take c.shallow_end.result c.args.tokens.now) c.args.level c.args.from n c.in_ok-part.part to c.in_ok-part.end (left_of_mode mode c.args.tokens.now c.shallow_end.result all) left c.in_ok-part.ensures.gives).0 in
    let s : left.depth ≤ 500 = tree_is_shallow mode (take c.shallow_end.result c.args.tokens.now) c.args.level c.args.from n to left in
    grind (arith, d, s)
