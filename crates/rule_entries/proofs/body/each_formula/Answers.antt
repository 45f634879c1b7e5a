use Rattle.std.proofs.Common.{◌+◌, List, drop, sym, subst, arith, Ok, Err}
use Rattle.std.specs.Fmt.{decimal}
use Rattle.std.proofs.lemmas.Result.{err_from_is_err_and}
use Rattle.rule_form.specs.declared.formula.Formula.{Formula}
use Rattle.rule_entries.specs.Readings.{AtPlace}
use Rattle.rule_entries.specs.Bodies.{IsFormulaOf}
use Rattle.rule_entries.specs.Formulas.{IsMapped}
use Rattle.rule_entries.proofs.Laws.{Rest, below_reads, turn_goes, turn_stops, turns_end}
use Rattle.rule_entries.proofs.body.each_formula.Goals as goal

pub returns-in_err-formula : goal.returns-in_err-formula
returns-in_err-formula g c =
    let inner = IsFormulaOf (g.R.PatternReader.writes c.args.reader.now) c.args.setting in
    let p = err_from_is_err_and c.from_residual.result c.from_residual.ensures.1 in
    let e = c.in_err-formula.field-0.0 in
    let read = below_reads (decimal c.loop-place.place) (IsMapped inner c.index-items-place.result) c.loop-place.found c.mapped-formula.new.found c.mapped-formula.result (Err e) c.mapped-formula.ensures c.in_err-formula.ensures in
    rw (p.1, p.2)
    (turn_stops (AtPlace (IsMapped inner)) c.args.items.now c.args.found.now c.loop-place.formulas c.loop-place.place c.loop-place.found c.loop-place.invariant c.index-items-place.result (omega (arith, c.loop-place-test.true)) c.index-items-place.is e c.mapped-formula.new.found c.mapped-formula.new.found read)

pub loop-place-preserved : goal.loop-place-preserved
loop-place-preserved g c =
    let inner = IsFormulaOf (g.R.PatternReader.writes c.args.reader.now) c.args.setting in
    let read = below_reads (decimal c.loop-place.place) (IsMapped inner c.index-items-place.result) c.loop-place.found c.mapped-formula.new.found c.mapped-formula.result (Ok c.in_ok-formula.formula) c.mapped-formula.ensures c.in_ok-formula.ensures in
    let turn = turn_goes (AtPlace (IsMapped inner)) c.args.items.now c.args.found.now c.loop-place.formulas c.loop-place.place c.loop-place.found c.loop-place.invariant c.index-items-place.result (omega (arith, c.loop-place-test.true)) c.index-items-place.is c.in_ok-formula.formula c.mapped-formula.new.found read in
    subst (λ (xs : List Formula). Rest (AtPlace (IsMapped inner)) c.args.items.now c.args.found.now xs (c.loop-place.place + 1) (drop (c.loop-place.place + 1) c.args.items.now) c.mapped-formula.new.found) (sym c.in_ok-push.ensures.ok) turn

pub returns : goal.returns
returns g c =
    let inner = IsFormulaOf (g.R.PatternReader.writes c.args.reader.now) c.args.setting in
    turns_end (AtPlace (IsMapped inner)) c.args.items.now c.args.found.now c.loop-place.formulas c.loop-place.place c.loop-place.found c.loop-place.invariant c.loop-place-test.false
