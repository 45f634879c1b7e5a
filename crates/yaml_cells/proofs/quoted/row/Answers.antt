use Rattle.std.proofs.Common.{◌≡◌, Option, IfOk, subst}
use Rattle.yaml_cells.specs.declared.fold.Line.{Line}
use Rattle.yaml_cells.proofs.Utf8.{double_is, single_is, row_none}
use Rattle.yaml_cells.proofs.quoted.row.Goals as goal

pub returns-then-quote-eq34 : goal.returns-then-quote-eq34
returns-then-quote-eq34 c =
    let P : Option Line → Type 0 = λ x. IfOk c.double_row.result (λ l. l ≡ x) in
    subst P (double_is c.args.quote c.args.next c.args.text.now c.in-Ok.text.now c.if-quote-eq34.true c.in-Ok.ensures.cases.1 c.in-Ok.ensures.cases.0) c.double_row.ensures

pub returns-else-quote-eq34 : goal.returns-else-quote-eq34
returns-else-quote-eq34 c =
    let P : Option Line → Type 0 = λ x. IfOk c.single_row.result (λ l. l ≡ x) in
    subst P (single_is c.args.quote c.args.next c.args.text.now c.in-Ok.text.now c.if-quote-eq34.false c.in-Ok.ensures.cases.1 c.in-Ok.ensures.cases.0) c.single_row.ensures

pub returns-in-Err : goal.returns-in-Err
returns-in-Err c = row_none c.args.quote c.args.next c.args.text.now c.in-Err.ensures.cases.0
