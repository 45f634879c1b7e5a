use Rattle.std.proofs.Common.{◌≡◌, ◌≤◌, ap, arith, Some}
use Rattle.node_tree.specs.declared.node.Node.{Node}
use Rattle.node_tree.specs.declared.view.Shape.{Shape}
use Rattle.node_tree.specs.declared.view.Mode.TheVariants as modes
use Rattle.node_tree.specs.Tree.{depth_of}
use Rattle.py_stmt.specs.Modules.{AreStatements, IsShape}
use Rattle.py_suite.proofs.Forms.{passed_on, some_same}
use Rattle.py_stmt.proofs.Modules.{AreMade, made, of_text, leb_true, shape_shallow, lost, pattern_spelled, pattern_shape, pattern_lies}
use Rattle.py_stmt.proofs.pattern.read_py_pattern.Goals as goal

pub returns-in_err-all-clause-only : goal.returns-in_err-all-clause-only
returns-in_err-all-clause-only c = λ s n r. passed_on (λ x. x) (λ l. l) c.from_residual.result c.in_err-all.field-0.0 (Some r.of_text.tokens) (Some (s, n)) c.from_residual.ensures.1 (c.in_err-all.ensures.only r.of_text.tokens r.of_text.lexes) (lost r.of_text.tokens (s, n))

pub returns-in_err-statements-clause-only : goal.returns-in_err-statements-clause-only
returns-in_err-statements-clause-only c = λ s n r.
    let m : AreMade modes.Pattern c.args.text.now c.in_ok-all.all c.as_slice-items.result.now = made modes.Pattern c.args.text.now c.in_ok-all.all c.as_slice.result.now c.in_ok-seen.seen c.as_slice-items.result.now c.as_slice.ensures c.as_slice-items.ensures c.in_ok-all.ensures.given c.in_ok-all.ensures.only c.in_ok-seen.ensures.found c.in_ok-seen.ensures.only in
    passed_on (λ x. x) (λ l. l) c.from_residual-in_err-statements.result c.in_err-statements.field-0.0 (Some r.statements) (Some (s, n)) c.from_residual-in_err-statements.ensures.1 (c.in_err-statements.ensures.only r.statements (pattern_spelled c.args.text.now c.in_ok-all.all c.as_slice-items.result.now m s n r)) (lost r.statements (s, n))

pub returns-in_err-shape-clause-only : goal.returns-in_err-shape-clause-only
returns-in_err-shape-clause-only c = λ s n r.
    let m : AreMade modes.Pattern c.args.text.now c.in_ok-all.all c.as_slice-items.result.now = made modes.Pattern c.args.text.now c.in_ok-all.all c.as_slice.result.now c.in_ok-seen.seen c.as_slice-items.result.now c.as_slice.ensures c.as_slice-items.ensures c.in_ok-all.ensures.given c.in_ok-all.ensures.only c.in_ok-seen.ensures.found c.in_ok-seen.ensures.only in
    let same : r.statements ≡ c.in_ok-statements.statements = some_same (c.in_ok-statements.ensures.only r.statements (pattern_spelled c.args.text.now c.in_ok-all.all c.as_slice-items.result.now m s n r)) in
    let shape : IsShape c.as_slice-items.result.now c.in_ok-statements.statements s n = pattern_shape c.args.text.now c.in_ok-all.all c.as_slice-items.result.now m s n r c.in_ok-statements.statements same in
    passed_on (λ x. x) (λ x. x) c.from_residual-in_err-shape.result c.in_err-shape.field-0.0 (Some (s, n)) (Some (s, n)) c.from_residual-in_err-shape.ensures.1 (c.in_err-shape.ensures.only s n shape) (λ none. none)

pub returns-then-not-is_shallow-clause-only : goal.returns-then-not-is_shallow-clause-only
returns-then-not-is_shallow-clause-only c = λ s n r.
    let m : AreMade modes.Pattern c.args.text.now c.in_ok-all.all c.as_slice-items.result.now = made modes.Pattern c.args.text.now c.in_ok-all.all c.as_slice.result.now c.in_ok-seen.seen c.as_slice-items.result.now c.as_slice.ensures c.as_slice-items.ensures c.in_ok-all.ensures.given c.in_ok-all.ensures.only c.in_ok-seen.ensures.found c.in_ok-seen.ensures.only in
    let same : r.statements ≡ c.in_ok-statements.statements = some_same (c.in_ok-statements.ensures.only r.statements (pattern_spelled c.args.text.now c.in_ok-all.all c.as_slice-items.result.now m s n r)) in
    let shape : IsShape c.as_slice-items.result.now c.in_ok-statements.statements s n = pattern_shape c.args.text.now c.in_ok-all.all c.as_slice-items.result.now m s n r c.in_ok-statements.statements same in
    let is : n ≡ c.in_ok-shape.tree = ap (λ (x : Shape × Node). x.1) (some_same (c.in_ok-shape.ensures.only s n shape)) in
    let shallow : depth_of c.in_ok-shape.tree ≤ 500 = rw is at r.shallow in
    absurd (grind (arith, shallow))

pub returns-clause-found : goal.returns-clause-found
returns-clause-found c =
    let m : AreMade modes.Pattern c.args.text.now c.in_ok-all.all c.as_slice-items.result.now = made modes.Pattern c.args.text.now c.in_ok-all.all c.as_slice.result.now c.in_ok-seen.seen c.as_slice-items.result.now c.as_slice.ensures c.as_slice-items.ensures c.in_ok-all.ensures.given c.in_ok-all.ensures.only c.in_ok-seen.ensures.found c.in_ok-seen.ensures.only in
    let shallow : depth_of c.in_ok-shape.tree ≤ 500 = leb_true _ _ (grind arith) in
    let spelled : AreStatements c.as_slice-items.result.now c.in_ok-statements.statements = c.in_ok-statements.ensures.found (shape_shallow c.as_slice-items.result.now c.in_ok-statements.statements c.in_ok-shape.shape c.in_ok-shape.tree c.in_ok-shape.ensures.found shallow) in
    record { items = c.as_slice-items.result.now; of_text = of_text modes.Pattern c.args.text.now c.in_ok-all.all c.as_slice-items.result.now m; statements = c.in_ok-statements.statements; spelled = spelled; is_shape = c.in_ok-shape.ensures.found; shallow = shallow }

pub returns-clause-placed : goal.returns-clause-placed
returns-clause-placed c =
    let m : AreMade modes.Pattern c.args.text.now c.in_ok-all.all c.as_slice-items.result.now = made modes.Pattern c.args.text.now c.in_ok-all.all c.as_slice.result.now c.in_ok-seen.seen c.as_slice-items.result.now c.as_slice.ensures c.as_slice-items.ensures c.in_ok-all.ensures.given c.in_ok-all.ensures.only c.in_ok-seen.ensures.found c.in_ok-seen.ensures.only in
    let shallow : depth_of c.in_ok-shape.tree ≤ 500 = leb_true _ _ (grind arith) in
    let spelled : AreStatements c.as_slice-items.result.now c.in_ok-statements.statements = c.in_ok-statements.ensures.found (shape_shallow c.as_slice-items.result.now c.in_ok-statements.statements c.in_ok-shape.shape c.in_ok-shape.tree c.in_ok-shape.ensures.found shallow) in
    pattern_lies c.args.text.now c.in_ok-all.all c.as_slice-items.result.now m c.in_ok-statements.statements c.in_ok-shape.shape c.in_ok-shape.tree c.utf8.text c.in_ok-all.ensures.placed spelled c.in_ok-shape.ensures.found

pub returns-clause-only : goal.returns-clause-only
returns-clause-only c = λ s n r.
    let m : AreMade modes.Pattern c.args.text.now c.in_ok-all.all c.as_slice-items.result.now = made modes.Pattern c.args.text.now c.in_ok-all.all c.as_slice.result.now c.in_ok-seen.seen c.as_slice-items.result.now c.as_slice.ensures c.as_slice-items.ensures c.in_ok-all.ensures.given c.in_ok-all.ensures.only c.in_ok-seen.ensures.found c.in_ok-seen.ensures.only in
    let same : r.statements ≡ c.in_ok-statements.statements = some_same (c.in_ok-statements.ensures.only r.statements (pattern_spelled c.args.text.now c.in_ok-all.all c.as_slice-items.result.now m s n r)) in
    let shape : IsShape c.as_slice-items.result.now c.in_ok-statements.statements s n = pattern_shape c.args.text.now c.in_ok-all.all c.as_slice-items.result.now m s n r c.in_ok-statements.statements same in
    c.in_ok-shape.ensures.only s n shape
