use Rattle.std.proofs.Common.{drop}
use Rattle.rule_entries.proofs.Outcomes.{SoFar}
use Rattle.rule_entries.proofs.read.outcomes.Given as goal

abbrev pub invariant-loop-place : goal.invariant-loop-place
invariant-loop-place g l = SoFar (g.R.PatternReader.writes l.reader) l.items l.taken l.all l.place (drop l.place l.items)
