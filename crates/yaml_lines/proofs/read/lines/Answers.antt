use Rattle.std.proofs.Common.{ℕ, List, ap, sym, ◌∙◌, subst, arith, length}
use Rattle.std.specs.Str.{IsUtf8}
use Rattle.std.proofs.lemmas.Iterator.Consumers.{map_from_collect}
use Rattle.std.proofs.lemmas.Iterator.Splits.{YieldsList-from_lines}
use Rattle.yaml_lines.specs.Body.{texts, AreShort}
use Rattle.yaml_lines.proofs.Reading.{lines_given, lines_refused, short_lines}
use Rattle.yaml_lines.proofs.read.lines.Goals as goal

pub returns-in_default : goal.returns-in_default
returns-in_default c = lines_refused c.args.bytes.now c.past_order_mark.result.now c.past_order_mark.ensures.rest c.in_default.ensures.cases.0

pub read_all-requires : goal.read_all-requires
read_all-requires c =
    let made = map_from_collect c.collect.result c.collect.ensures.ran (YieldsList-from_lines c.in-Ok.text.now c.lines.ensures.rest) in
    let all = rw c.in_ok-all.was at made in
    let e = ap texts c.as_slice.ensures.value ∙ all in
    let P : List (List ℕ) → Type 0 = λ x. AreShort x in
    subst P (sym e) (short_lines c.in-Ok.text.now (omega (arith, ap length c.in-Ok.ensures.cases.0, c.past_order_mark.ensures.len, c.requires)))

pub returns : goal.returns
returns c =
    let made = map_from_collect c.collect.result c.collect.ensures.ran (YieldsList-from_lines c.in-Ok.text.now c.lines.ensures.rest) in
    let all = rw c.in_ok-all.was at made in
    let e = ap texts c.as_slice.ensures.value ∙ all in
    let U : List ℕ → Type 0 = λ x. IsUtf8 x in
    lines_given c.args.bytes.now c.in-Ok.text.now c.as_slice.result.now c.read_all.result (c.in-Ok.ensures.cases.0 ∙ c.past_order_mark.ensures.rest) (subst U (sym c.in-Ok.ensures.cases.0) c.in-Ok.ensures.cases.1) e c.read_all.ensures
