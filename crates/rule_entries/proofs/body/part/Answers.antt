use Rattle.std.proofs.lemmas.Result.{err_from_is_err_and}
use Rattle.rule_entries.proofs.Lists.{part_stops}
use Rattle.rule_entries.proofs.body.part.Goals as goal

pub returns-in_err-body : goal.returns-in_err-body
returns-in_err-body g c =
    let p = err_from_is_err_and c.from_residual.result c.from_residual.ensures.1 in
    rw (p.1, p.2) (part_stops (g.R.PatternReader.writes c.args.reader.now) c.args.setting c.args.mode c.args.entries.now c.args.found.now _ c.in_err-body.field-0.0 c.in_err-body.ensures)
