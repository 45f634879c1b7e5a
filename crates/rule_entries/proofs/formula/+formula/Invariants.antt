use Rattle.std.proofs.Common.{◌+◌, ◌*◌, drop}
use Rattle.rule_entries.specs.Readings.{AtPlace}
use Rattle.rule_entries.specs.Finds.{IsLeaf}
use Rattle.rule_entries.specs.Formulas.{IsFormula, IsAlternative, IsChild}
use Rattle.rule_entries.proofs.Laws.{Rest}
use Rattle.rule_entries.proofs.formula.+formula.Given as goal

abbrev pub decreases-formula : goal.decreases-formula
decreases-formula g l = 16 * l.room

abbrev pub decreases-formula_at : goal.decreases-formula_at
decreases-formula_at g l = 16 * l.room + 1

abbrev pub decreases-one_formula : goal.decreases-one_formula
decreases-one_formula g l = 16 * l.room + 2

abbrev pub decreases-mapped : goal.decreases-mapped
decreases-mapped g l = 16 * l.room + 3

abbrev pub decreases-held : goal.decreases-held
decreases-held g l = 16 * l.room + 4

abbrev pub decreases-alternative_at : goal.decreases-alternative_at
decreases-alternative_at g l = 16 * l.room + 6

abbrev pub decreases-meta_pattern : goal.decreases-meta_pattern
decreases-meta_pattern g l = 16 * l.room + 5

abbrev pub decreases-child_at : goal.decreases-child_at
decreases-child_at g l = 16 * l.room + 6

abbrev pub decreases-alternative : goal.decreases-alternative
decreases-alternative g l = 16 * l.room + 7

abbrev pub decreases-child : goal.decreases-child
decreases-child g l = 16 * l.room + 7

abbrev pub decreases-alternatives : goal.decreases-alternatives
decreases-alternatives g l = 16 * l.room + 8

abbrev pub decreases-children : goal.decreases-children
decreases-children g l = 16 * l.room + 8

abbrev pub decreases-either : goal.decreases-either
decreases-either g l = 16 * l.room + 9

abbrev pub decreases-patterns : goal.decreases-patterns
decreases-patterns g l = 16 * l.room + 9

abbrev pub invariant-alternatives-loop-place : goal.invariant-alternatives-loop-place
invariant-alternatives-loop-place g l =
    let leaf = IsLeaf (g.R.PatternReader.writes l.reader) l.setting in
    Rest (AtPlace (IsAlternative leaf (IsFormula l.room leaf))) l.items l.fn.found l.formulas l.place (drop l.place l.items) l.found

abbrev pub invariant-children-loop-place : goal.invariant-children-loop-place
invariant-children-loop-place g l =
    let leaf = IsLeaf (g.R.PatternReader.writes l.reader) l.setting in
    Rest (AtPlace (IsChild leaf (IsFormula l.room leaf))) l.items l.fn.found l.children l.place (drop l.place l.items) l.found
