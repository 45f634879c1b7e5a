use Rattle.std.proofs.Common.{ℕ, List, ap, sym, ◌∙◌, subst, arith, length}
use Rattle.std.specs.Str.Lines.{lines}
use Rattle.std.proofs.lemmas.Result.{err_from_is_err_and}
use Rattle.std.proofs.lemmas.Iterator.Consumers.{map_from_collect}
use Rattle.std.proofs.lemmas.Iterator.Splits.{YieldsList-from_lines}
use Rattle.yaml_lines.specs.Body.{texts, AreShort}
use Rattle.yaml_lines.proofs.Reading.{lines_refused, short_lines}
use Rattle.yaml_read.specs.Value.{value_with}
use Rattle.yaml_read.proofs.Readings.{value_is, value_none}
use Rattle.yaml_read.proofs.read.value_in.Goals as goal

pub returns-in_default : goal.returns-in_default
returns-in_default c = ap (value_with c.args.bytes.now) (lines_refused c.args.bytes.now c.past_order_mark.result.now c.past_order_mark.ensures.rest c.in_default.ensures.cases.0)

pub cells_of-requires : goal.cells_of-requires
cells_of-requires c =
    let made = map_from_collect c.collect.result c.collect.ensures.ran (YieldsList-from_lines c.in-Ok.text.now c.lines-2.ensures.rest) in
    let all = rw c.in_ok-all.was at made in
    let e = ap texts c.as_slice.ensures.value ∙ all in
    let P : List (List ℕ) → Type 0 = λ x. AreShort x in
    subst P (sym e) (short_lines c.in-Ok.text.now (omega (arith, ap length c.in-Ok.ensures.cases.0, c.past_order_mark.ensures.len, c.requires)))

pub returns-in_err-cells : goal.returns-in_err-cells
returns-in_err-cells c =
    let made = map_from_collect c.collect.result c.collect.ensures.ran (YieldsList-from_lines c.in-Ok.text.now c.lines-2.ensures.rest) in
    let all = rw c.in_ok-all.was at made in
    let e = ap texts c.as_slice.ensures.value ∙ all ∙ ap lines (c.in-Ok.ensures.cases.0 ∙ c.past_order_mark.ensures.rest) in
    let p = err_from_is_err_and c.from_residual-in_err-cells.result c.from_residual-in_err-cells.ensures.1 in
    rw (p.1, p.2)
    (value_none c.args.bytes.now c.in_ok-found.found c.as_slice-2.result.now c.as_slice.result.now c.ends_line.result c.in_err-cells.field-0.0 c.in_ok-found.ensures c.as_slice-2.ensures e c.ends_line.ensures c.in_err-cells.ensures)

pub returns : goal.returns
returns c =
    let made = map_from_collect c.collect.result c.collect.ensures.ran (YieldsList-from_lines c.in-Ok.text.now c.lines-2.ensures.rest) in
    let all = rw c.in_ok-all.was at made in
    let e = ap texts c.as_slice.ensures.value ∙ all ∙ ap lines (c.in-Ok.ensures.cases.0 ∙ c.past_order_mark.ensures.rest) in
    value_is c.args.bytes.now c.in_ok-found.found c.as_slice-2.result.now c.as_slice.result.now c.ends_line.result c.in_ok-cells.cells c.reverse.new.self c.built.result c.in_ok-found.ensures c.as_slice-2.ensures e c.ends_line.ensures c.in_ok-cells.ensures c.reverse.ensures c.built.ensures
