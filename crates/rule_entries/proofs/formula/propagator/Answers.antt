use Rattle.std.proofs.Common.{List, ℕ, Ok, sym, subst}
use Rattle.std.proofs.lemmas.Result.{err_from_is_err_and}
use Rattle.rule_entries.specs.Readings.{Only}
use Rattle.rule_entries.specs.Finds.{IsLeaf}
use Rattle.rule_entries.specs.Formulas.{IsFormula, IsPropagator}
use Rattle.rule_entries.proofs.Shapes.{carried, propagator_stops, source_stops, target_stops, propagator_goes}
use Rattle.rule_entries.proofs.formula.propagator.Goals as goal

pub returns-in_err-formula : goal.returns-in_err-formula
returns-in_err-formula g c =
    let inner = IsFormula c.args.room (IsLeaf (g.R.PatternReader.writes c.args.reader.now) c.args.setting) in
    let p = err_from_is_err_and c.from_residual-in_err-formula.result c.from_residual-in_err-formula.ensures.1 in
    rw (p.1, p.2) (propagator_stops inner c.args.item.now c.args.found.now c.one_formula.new.found c.in_ok-entries.entries.now c.in_ok-entries.ensures c.in_err-formula.field-0.0 c.in_err-formula.ensures)

pub returns-in_err-source : goal.returns-in_err-source
returns-in_err-source g c =
    let inner = IsFormula c.args.room (IsLeaf (g.R.PatternReader.writes c.args.reader.now) c.args.setting) in
    let p = err_from_is_err_and c.from_residual-in_err-source.result c.from_residual-in_err-source.ensures.1 in
    rw (p.1, p.2) (source_stops inner c.args.item.now c.args.found.now c.one_formula.new.found c.in_ok-entries.entries.now c.in_ok-entries.ensures c.in_ok-formula.formula c.in_ok-formula.ensures c.in_err-source.field-0.0 c.in_err-source.ensures)

pub returns-in_err-target : goal.returns-in_err-target
returns-in_err-target g c =
    let inner = IsFormula c.args.room (IsLeaf (g.R.PatternReader.writes c.args.reader.now) c.args.setting) in
    let p = err_from_is_err_and c.from_residual-in_err-target.result c.from_residual-in_err-target.ensures.1 in
    rw (p.1, p.2) (target_stops inner c.args.item.now c.args.found.now c.one_formula.new.found c.in_ok-entries.entries.now c.in_ok-entries.ensures c.in_ok-formula.formula c.in_ok-formula.ensures c.in_ok-source.source.now c.in_ok-source.ensures c.in_err-target.field-0.0 c.in_err-target.ensures)

pub returns : goal.returns
returns g c =
    let inner = IsFormula c.args.room (IsLeaf (g.R.PatternReader.writes c.args.reader.now) c.args.setting) in
    let P : List ℕ → List ℕ → Type 0 = λ a b. Only (IsPropagator inner c.args.item.now c.args.found.now) (Ok (carried c.in_ok-formula.formula a b, c.one_formula.new.found)) in
    let goes = propagator_goes inner c.args.item.now c.args.found.now c.one_formula.new.found c.in_ok-entries.entries.now c.in_ok-entries.ensures c.in_ok-formula.formula c.in_ok-formula.ensures c.in_ok-source.source.now c.in_ok-source.ensures c.in_ok-target.target.now c.in_ok-target.ensures in
    subst (λ (b : List ℕ). P c.in_ok-from_str.field-0 b) (sym c.in_ok-from_str-2.ensures) (subst (λ (a : List ℕ). P a c.in_ok-target.target.now) (sym c.in_ok-from_str.ensures) goes)
