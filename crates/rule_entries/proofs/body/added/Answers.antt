use Rattle.std.proofs.lemmas.Result.{err_from_is_err_and}
use Rattle.rule_entries.specs.Bodies.{IsFormulaOf}
use Rattle.rule_entries.proofs.Lists.{sources_stops, sources_goes, sinks_stops, sinks_goes, sanitizers_stops, sanitizers_goes, propagators_stops, propagators_goes}
use Rattle.rule_entries.proofs.body.added.Goals as goal

pub returns-in_err-sources-in-Sources : goal.returns-in_err-sources-in-Sources
returns-in_err-sources-in-Sources g c =
    let inner = IsFormulaOf (g.R.PatternReader.writes c.args.reader.now) c.args.setting in
    let p = err_from_is_err_and c.from_residual.result c.from_residual.ensures.1 in
    rw (p.1, p.2) (sources_stops inner c.args.rule c.args.entry.now c.args.found.now c.formulas_at.new.found c.args.key c.in_err-sources-in-Sources.field-0.0 c.in-Sources.is c.in_err-sources-in-Sources.ensures)

pub returns-in_ok-sources-in-Sources : goal.returns-in_ok-sources-in-Sources
returns-in_ok-sources-in-Sources g c =
    let inner = IsFormulaOf (g.R.PatternReader.writes c.args.reader.now) c.args.setting in
    sources_goes inner c.args.rule c.args.entry.now c.args.found.now c.formulas_at.new.found c.args.key c.in_ok-sources-in-Sources.sources c.in-Sources.is c.in_ok-sources-in-Sources.ensures

pub returns-in_err-sinks-in-Sinks : goal.returns-in_err-sinks-in-Sinks
returns-in_err-sinks-in-Sinks g c =
    let inner = IsFormulaOf (g.R.PatternReader.writes c.args.reader.now) c.args.setting in
    let p = err_from_is_err_and c.from_residual-in_err-sinks-in-Sinks.result c.from_residual-in_err-sinks-in-Sinks.ensures.1 in
    rw (p.1, p.2) (sinks_stops inner c.args.rule c.args.entry.now c.args.found.now c.formulas_at-in-Sinks.new.found c.args.key c.in_err-sinks-in-Sinks.field-0.0 c.in-Sinks.is c.in_err-sinks-in-Sinks.ensures)

pub returns-in_ok-sinks-in-Sinks : goal.returns-in_ok-sinks-in-Sinks
returns-in_ok-sinks-in-Sinks g c =
    let inner = IsFormulaOf (g.R.PatternReader.writes c.args.reader.now) c.args.setting in
    sinks_goes inner c.args.rule c.args.entry.now c.args.found.now c.formulas_at-in-Sinks.new.found c.args.key c.in_ok-sinks-in-Sinks.sinks c.in-Sinks.is c.in_ok-sinks-in-Sinks.ensures

pub returns-in_err-sanitizers-in-Sanitizers : goal.returns-in_err-sanitizers-in-Sanitizers
returns-in_err-sanitizers-in-Sanitizers g c =
    let inner = IsFormulaOf (g.R.PatternReader.writes c.args.reader.now) c.args.setting in
    let p = err_from_is_err_and c.from_residual-in_err-sanitizers-in-Sanitizers.result c.from_residual-in_err-sanitizers-in-Sanitizers.ensures.1 in
    rw (p.1, p.2) (sanitizers_stops inner c.args.rule c.args.entry.now c.args.found.now c.formulas_at-in-Sanitizers.new.found c.args.key c.in_err-sanitizers-in-Sanitizers.field-0.0 c.in-Sanitizers.is c.in_err-sanitizers-in-Sanitizers.ensures)

pub returns-in_ok-sanitizers-in-Sanitizers : goal.returns-in_ok-sanitizers-in-Sanitizers
returns-in_ok-sanitizers-in-Sanitizers g c =
    let inner = IsFormulaOf (g.R.PatternReader.writes c.args.reader.now) c.args.setting in
    sanitizers_goes inner c.args.rule c.args.entry.now c.args.found.now c.formulas_at-in-Sanitizers.new.found c.args.key c.in_ok-sanitizers-in-Sanitizers.sanitizers c.in-Sanitizers.is c.in_ok-sanitizers-in-Sanitizers.ensures

pub returns-in_err-propagators-in-Propagators : goal.returns-in_err-propagators-in-Propagators
returns-in_err-propagators-in-Propagators g c =
    let inner = IsFormulaOf (g.R.PatternReader.writes c.args.reader.now) c.args.setting in
    let p = err_from_is_err_and c.from_residual-in_err-propagators-in-Propagators.result c.from_residual-in_err-propagators-in-Propagators.ensures.1 in
    rw (p.1, p.2) (propagators_stops inner c.args.rule c.args.entry.now c.args.found.now c.propagators_at.new.found c.args.key c.in_err-propagators-in-Propagators.field-0.0 c.in-Propagators.is c.in_err-propagators-in-Propagators.ensures)

pub returns-in_ok-propagators-in-Propagators : goal.returns-in_ok-propagators-in-Propagators
returns-in_ok-propagators-in-Propagators g c =
    let inner = IsFormulaOf (g.R.PatternReader.writes c.args.reader.now) c.args.setting in
    propagators_goes inner c.args.rule c.args.entry.now c.args.found.now c.propagators_at.new.found c.args.key c.in_ok-propagators-in-Propagators.propagators c.in-Propagators.is c.in_ok-propagators-in-Propagators.ensures
