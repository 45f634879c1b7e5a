use Rattle.std.proofs.Common.{◌≡◌, ◌≤◌, [], length, sym, ap, ◌∙◌, arith, Some}
use Rattle.node_tree.specs.declared.kind.Kind.TheVariants as k
use Rattle.node_tree.specs.declared.view.Mode.TheVariants as modes
use Rattle.node_tree.specs.Tree.{depth_of}
use Rattle.py_expr.specs.Parts.{node}
use Rattle.py_stmt.specs.Modules.{AreStatements}
use Rattle.py_suite.proofs.Forms.{passed_on, some_same}
use Rattle.py_stmt.proofs.Modules.{AreMade, made, of_text, leb_true, root_shallow, lost, module_spelled, module_lies}
use Rattle.py_stmt.proofs.module.read_module.Goals as goal

pub returns-in_err-all-clause-only : goal.returns-in_err-all-clause-only
returns-in_err-all-clause-only c = λ n r. passed_on (λ m. m) (λ l. l) c.from_residual.result c.in_err-all.field-0.0 (Some r.of_text.tokens) (Some n) c.from_residual.ensures.1 (c.in_err-all.ensures.only r.of_text.tokens r.of_text.lexes) (lost r.of_text.tokens n)

pub returns-in_err-statements-clause-only : goal.returns-in_err-statements-clause-only
returns-in_err-statements-clause-only c = λ n r.
    let m : AreMade modes.Text c.args.text.now c.in_ok-all.all c.as_slice-2.result.now = made modes.Text c.args.text.now c.in_ok-all.all c.as_slice.result.now c.in_ok-items.items c.as_slice-2.result.now c.as_slice.ensures c.as_slice-2.ensures c.in_ok-all.ensures.given c.in_ok-all.ensures.only c.in_ok-items.ensures.found c.in_ok-items.ensures.only in
    passed_on (λ m. m) (λ l. l) c.from_residual-in_err-statements.result c.in_err-statements.field-0.0 (Some r.statements) (Some n) c.from_residual-in_err-statements.ensures.1 (c.in_err-statements.ensures.only r.statements (module_spelled c.args.text.now c.in_ok-all.all c.as_slice-2.result.now m n r)) (lost r.statements n)

pub returns-then-not-is_shallow-clause-only : goal.returns-then-not-is_shallow-clause-only
returns-then-not-is_shallow-clause-only c = λ n r.
    let m : AreMade modes.Text c.args.text.now c.in_ok-all.all c.as_slice-2.result.now = made modes.Text c.args.text.now c.in_ok-all.all c.as_slice.result.now c.in_ok-items.items c.as_slice-2.result.now c.as_slice.ensures c.as_slice-2.ensures c.in_ok-all.ensures.given c.in_ok-all.ensures.only c.in_ok-items.ensures.found c.in_ok-items.ensures.only in
    let same : r.statements ≡ c.in_ok-statements.statements = some_same (c.in_ok-statements.ensures.only r.statements (module_spelled c.args.text.now c.in_ok-all.all c.as_slice-2.result.now m n r)) in
    let root : c.over-root.result ≡ node k.Root [] 0 (length c.args.text.now) c.in_ok-statements.statements = c.over-root.ensures in
    let is : n ≡ c.over-root.result = r.is_root ∙ (ap (node k.Root [] 0 (length c.args.text.now)) same ∙ sym root) in
    let shallow : depth_of c.over-root.result ≤ 500 = rw is at r.shallow in
    absurd (grind (arith, shallow))

pub returns-clause-found : goal.returns-clause-found
returns-clause-found c =
    let m : AreMade modes.Text c.args.text.now c.in_ok-all.all c.as_slice-2.result.now = made modes.Text c.args.text.now c.in_ok-all.all c.as_slice.result.now c.in_ok-items.items c.as_slice-2.result.now c.as_slice.ensures c.as_slice-2.ensures c.in_ok-all.ensures.given c.in_ok-all.ensures.only c.in_ok-items.ensures.found c.in_ok-items.ensures.only in
    let shallow : depth_of c.over-root.result ≤ 500 = leb_true _ _ (grind arith) in
    let root : c.over-root.result ≡ node k.Root [] 0 (length c.args.text.now) c.in_ok-statements.statements = c.over-root.ensures in
    let spelled : AreStatements c.as_slice-2.result.now c.in_ok-statements.statements = c.in_ok-statements.ensures.found (root_shallow c.args.text.now c.in_ok-statements.statements c.over-root.result root shallow) in
    record { items = c.as_slice-2.result.now; of_text = of_text modes.Text c.args.text.now c.in_ok-all.all c.as_slice-2.result.now m; statements = c.in_ok-statements.statements; spelled = spelled; is_root = root; shallow = shallow }

pub returns-clause-placed : goal.returns-clause-placed
returns-clause-placed c =
    let m : AreMade modes.Text c.args.text.now c.in_ok-all.all c.as_slice-2.result.now = made modes.Text c.args.text.now c.in_ok-all.all c.as_slice.result.now c.in_ok-items.items c.as_slice-2.result.now c.as_slice.ensures c.as_slice-2.ensures c.in_ok-all.ensures.given c.in_ok-all.ensures.only c.in_ok-items.ensures.found c.in_ok-items.ensures.only in
    let shallow : depth_of c.over-root.result ≤ 500 = leb_true _ _ (grind arith) in
    let root : c.over-root.result ≡ node k.Root [] 0 (length c.args.text.now) c.in_ok-statements.statements = c.over-root.ensures in
    let spelled : AreStatements c.as_slice-2.result.now c.in_ok-statements.statements = c.in_ok-statements.ensures.found (root_shallow c.args.text.now c.in_ok-statements.statements c.over-root.result root shallow) in
    module_lies c.args.text.now c.in_ok-all.all c.as_slice-2.result.now m c.in_ok-statements.statements c.over-root.result c.utf8.text c.in_ok-all.ensures.placed spelled root

pub returns-clause-only : goal.returns-clause-only
returns-clause-only c = λ n r.
    let m : AreMade modes.Text c.args.text.now c.in_ok-all.all c.as_slice-2.result.now = made modes.Text c.args.text.now c.in_ok-all.all c.as_slice.result.now c.in_ok-items.items c.as_slice-2.result.now c.as_slice.ensures c.as_slice-2.ensures c.in_ok-all.ensures.given c.in_ok-all.ensures.only c.in_ok-items.ensures.found c.in_ok-items.ensures.only in
    let same : r.statements ≡ c.in_ok-statements.statements = some_same (c.in_ok-statements.ensures.only r.statements (module_spelled c.args.text.now c.in_ok-all.all c.as_slice-2.result.now m n r)) in
    let root : c.over-root.result ≡ node k.Root [] 0 (length c.args.text.now) c.in_ok-statements.statements = c.over-root.ensures in
    ap Some (r.is_root ∙ (ap (node k.Root [] 0 (length c.args.text.now)) same ∙ sym root))
