use Rattle.std.proofs.Common.{◌+◌, List, drop, sym, subst, arith, Ok, Err}
use Rattle.std.specs.Fmt.{decimal}
use Rattle.std.proofs.lemmas.Result.{err_from_is_err_and}
use Rattle.rule_form.specs.declared.rule.Propagator.{Propagator}
use Rattle.rule_entries.specs.Readings.{AtPlace}
use Rattle.rule_entries.specs.Bodies.{IsFormulaOf}
use Rattle.rule_entries.specs.Formulas.{IsPropagator}
use Rattle.rule_entries.proofs.Laws.{Rest, below_reads, turn_goes, turn_stops, turns_end}
use Rattle.rule_entries.proofs.body.each_propagator.Goals as goal

pub returns-in_err-one : goal.returns-in_err-one
returns-in_err-one g c =
    let inner = IsFormulaOf (g.R.PatternReader.writes c.args.reader.now) c.args.setting in
    let p = err_from_is_err_and c.from_residual.result c.from_residual.ensures.1 in
    let e = c.in_err-one.field-0.0 in
    let read = below_reads (decimal c.loop-place.place) (IsPropagator inner c.index-items-place.result) c.loop-place.found c.propagator-one.new.found c.propagator-one.result (Err e) c.propagator-one.ensures c.in_err-one.ensures in
    rw (p.1, p.2)
    (turn_stops (AtPlace (IsPropagator inner)) c.args.items.now c.args.found.now c.loop-place.all c.loop-place.place c.loop-place.found c.loop-place.invariant c.index-items-place.result (omega (arith, c.loop-place-test.true)) c.index-items-place.is e c.propagator-one.new.found c.propagator-one.new.found read)

pub loop-place-preserved : goal.loop-place-preserved
loop-place-preserved g c =
    let inner = IsFormulaOf (g.R.PatternReader.writes c.args.reader.now) c.args.setting in
    let read = below_reads (decimal c.loop-place.place) (IsPropagator inner c.index-items-place.result) c.loop-place.found c.propagator-one.new.found c.propagator-one.result (Ok c.in_ok-one.one) c.propagator-one.ensures c.in_ok-one.ensures in
    let turn = turn_goes (AtPlace (IsPropagator inner)) c.args.items.now c.args.found.now c.loop-place.all c.loop-place.place c.loop-place.found c.loop-place.invariant c.index-items-place.result (omega (arith, c.loop-place-test.true)) c.index-items-place.is c.in_ok-one.one c.propagator-one.new.found read in
    subst (λ (xs : List Propagator). Rest (AtPlace (IsPropagator inner)) c.args.items.now c.args.found.now xs (c.loop-place.place + 1) (drop (c.loop-place.place + 1) c.args.items.now) c.propagator-one.new.found) (sym c.in_ok-push.ensures.ok) turn

pub returns : goal.returns
returns g c =
    let inner = IsFormulaOf (g.R.PatternReader.writes c.args.reader.now) c.args.setting in
    turns_end (AtPlace (IsPropagator inner)) c.args.items.now c.args.found.now c.loop-place.all c.loop-place.place c.loop-place.found c.loop-place.invariant c.loop-place-test.false
