use Rattle.std.proofs.Common.{drop}
use Rattle.rule_entries.specs.Readings.{AtPlace}
use Rattle.rule_entries.specs.Bodies.{IsFormulaOf}
use Rattle.rule_entries.specs.Formulas.{IsMapped}
use Rattle.rule_entries.proofs.Laws.{Rest}
use Rattle.rule_entries.proofs.body.each_formula.Given as goal

abbrev pub invariant-loop-place : goal.invariant-loop-place
invariant-loop-place g l = Rest (AtPlace (IsMapped (IsFormulaOf (g.R.PatternReader.writes l.reader) l.setting))) l.items l.fn.found l.formulas l.place (drop l.place l.items) l.found
