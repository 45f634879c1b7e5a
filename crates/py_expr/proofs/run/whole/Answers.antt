use Rattle.std.proofs.Common.{◌≤◌, arith}
use Rattle.node_tree.specs.Tree.{depth_of}
use Rattle.py_expr.specs.reader.Reading.{one}
use Rattle.py_expr.proofs.Runs.{read_is_whole, whole_is_read, one_whole, whole_is_shallow, whole_is_bracketed, nothing_read, leb_true}
use Rattle.py_expr.proofs.run.whole.Goals as goal

pub returns-then-shallow_end-items : goal.returns-then-shallow_end-items
returns-then-shallow_end-items c = λ x r. absurd (omega (arith, c.shallow_end.ensures.many c.if-shallow_end-items.true, whole_is_bracketed c.args.items.now x c.shallow_end.result r c.if-shallow_end-items.true))

pub returns-then-end-items : goal.returns-then-end-items
returns-then-end-items c = λ x r. absurd (omega (arith, c.if-end-items.true, (one_whole c.args.items.now x c.in-Ok.node c.in-Ok.end r c.in-Ok.ensures.gives).1))

pub returns-then-not-is_shallow : goal.returns-then-not-is_shallow
returns-then-not-is_shallow c = λ x r.
    let d : depth_of c.in-Ok.node ≤ 500 = rw (one_whole c.args.items.now x c.in-Ok.node c.in-Ok.end r c.in-Ok.ensures.gives).0 at (whole_is_shallow c.args.items.now x r) in
    absurd (grind (arith, d))

pub returns-else-not-is_shallow : goal.returns-else-not-is_shallow
returns-else-not-is_shallow c = (
  read_is_whole c.args.items.now c.in-Ok.node c.in-Ok.end c.in-Ok.ensures.gives (omega (arith, c.in-Ok.ensures.within, c.if-end-items.false)) (leb_true _ _ (grind arith)) (λ k a b. c.shallow_end.ensures.few k a (omega (arith, b, c.in-Ok.ensures.within, c.if-shallow_end-items.false))),
  λ y r. (one_whole c.args.items.now y c.in-Ok.node c.in-Ok.end r c.in-Ok.ensures.gives).0,
)

pub returns-in-Err-NoTree : goal.returns-in-Err-NoTree
returns-in-Err-NoTree c = λ x r. absurd (nothing_read one c.in-Err-NoTree.field-0 _ _ c.in-Err-NoTree.field-0-is c.in-Err-NoTree.ensures.gives (whole_is_read c.args.items.now x r))
