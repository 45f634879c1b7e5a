use Rattle.std.proofs.Common.{drop}
use Rattle.rule_entries.specs.Bodies.{IsPart, setting_of}
use Rattle.rule_entries.proofs.Laws.{Rest}
use Rattle.rule_entries.proofs.body.parts.Given as goal

abbrev pub invariant-loop-lang : goal.invariant-loop-lang
invariant-loop-lang g l = Rest (λ k lang. IsPart (g.R.PatternReader.writes l.reader) (setting_of l.constants lang) l.mode l.entries) l.langs l.fn.found l.all l.lang-index (drop l.lang-index l.langs) l.found
