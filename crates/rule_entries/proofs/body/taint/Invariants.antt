use Rattle.std.proofs.Common.{drop}
use Rattle.rule_entries.specs.Bodies.{IsFormulaOf}
use Rattle.rule_entries.proofs.Lists.{Left}
use Rattle.rule_entries.proofs.body.taint.Given as goal

abbrev pub invariant-loop-entry : goal.invariant-loop-entry
invariant-loop-entry g l = Left (IsFormulaOf (g.R.PatternReader.writes l.reader) l.setting) l.entries l.fn.found l.rule (drop l.entry-index l.entries) l.found
