use Rattle.std.proofs.Common.{sym}
use Rattle.rule_entries.proofs.Outcomes.{some_id}
use Rattle.rule_entries.proofs.read.outcome.Goals as goal

pub returns-in-Ok : goal.returns-in-Ok
returns-in-Ok g c =
    λ ids tells.
    some_id (g.R.PatternReader.writes c.args.reader.now) ids c.args.place c.args.entry.now c.args.taken.now c.in-Some.entries.now (sym c.in-Some.ensures) c.in-Ok.id.now c.with_id.result c.with_id.new.taken c.in-Ok.ensures (c.with_id.ensures ids tells)
