use Rattle.std.proofs.lemmas.Result.{err_from_is_err_and}
use Rattle.rule_entries.specs.Bodies.{IsFormulaOf}
use Rattle.rule_entries.proofs.Lists.{search_at, taint_stops}
use Rattle.rule_entries.proofs.body.body.Goals as goal

pub returns-in-Search : goal.returns-in-Search
returns-in-Search g c =
    let inner = IsFormulaOf (g.R.PatternReader.writes c.args.reader.now) c.args.setting in
    search_at inner c.args.mode c.args.entries.now c.args.found.now c.search.new.found c.search.result c.in-Search.is c.search.ensures

pub returns-in_err-rule-in-Taint : goal.returns-in_err-rule-in-Taint
returns-in_err-rule-in-Taint g c =
    let inner = IsFormulaOf (g.R.PatternReader.writes c.args.reader.now) c.args.setting in
    let p = err_from_is_err_and c.from_residual.result c.from_residual.ensures.1 in
    rw (p.1, p.2) (taint_stops inner c.args.mode c.args.entries.now c.args.found.now _ c.in_err-rule-in-Taint.field-0.0 c.in-Taint.is c.in_err-rule-in-Taint.ensures)
