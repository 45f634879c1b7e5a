use Rattle.std.proofs.lemmas.Result.{err_from_is_err_and}
use Rattle.rule_entries.specs.Bodies.{IsFormulaOf}
use Rattle.rule_entries.proofs.Lists.{search_stops, search_goes}
use Rattle.rule_entries.proofs.body.search.Goals as goal

pub returns-in_err-formula : goal.returns-in_err-formula
returns-in_err-formula g c =
    let inner = IsFormulaOf (g.R.PatternReader.writes c.args.reader.now) c.args.setting in
    let p = err_from_is_err_and c.from_residual.result c.from_residual.ensures.1 in
    rw (p.1, p.2) (search_stops inner c.args.entries.now c.args.found.now c.one_formula.new.found c.in_err-formula.field-0.0 c.in_err-formula.ensures)

pub returns : goal.returns
returns g c =
    let inner = IsFormulaOf (g.R.PatternReader.writes c.args.reader.now) c.args.setting in
    search_goes inner c.args.entries.now c.args.found.now c.one_formula.new.found c.in_ok-formula.formula c.in_ok-formula.ensures
