use Rattle.rule_entries.proofs.Outcomes.{comes_good, comes_bad}
use Rattle.rule_entries.proofs.read.with_id.Goals as goal

pub returns-in-Ok : goal.returns-in-Ok
returns-in-Ok g c =
    λ ids tells.
    comes_good (g.R.PatternReader.writes c.args.reader.now) ids c.args.place c.args.id.now c.args.entries.now c.in-Ok.rule c.in-Ok.ensures.0 c.unless_taken.result c.unless_taken.new.taken c.in-Ok.ensures.1 (c.unless_taken.ensures ids tells)

pub returns-in-Err : goal.returns-in-Err
returns-in-Err g c =
    λ ids tells.
    comes_bad (g.R.PatternReader.writes c.args.reader.now) ids c.args.place c.args.id.now c.args.entries.now c.in-Err.stop c.in-Err.ensures.0 c.bad.result c.args.taken.now c.in-Err.ensures.1 c.bad.ensures tells
