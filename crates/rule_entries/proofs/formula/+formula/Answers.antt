use Rattle.std.proofs.Common.{ℕ, ◌+◌, List, drop, sym, subst, arith, Ok, Err}
use Rattle.std.specs.Fmt.{decimal}
use Rattle.std.proofs.lemmas.Result.{err_from_is_err_and}
use Rattle.rule_form.specs.declared.formula.Formula.{Formula}
use Rattle.rule_form.specs.declared.formula.Child.{Child}
use Rattle.rule_form.specs.declared.formula.Child.TheVariants as children
use Rattle.rule_keys.specs.Misfits.{IsUnder}
use Rattle.rule_entries.specs.Readings.{AtPlace, Reads}
use Rattle.rule_entries.specs.Finds.{IsLeaf}
use Rattle.rule_entries.specs.Formulas.{IsFormula, IsFormulaAt, IsAlternative, IsChild, IsMetaPattern}
use Rattle.rule_entries.proofs.Laws.{Rest, below_reads, turn_goes, turn_stops, turns_end}
use Rattle.rule_entries.proofs.Shapes.{either_stops, either_goes, patterns_stops, patterns_goes, mapped_goes, meta_pattern_stops, meta_pattern_goes, compare_at, child_goes, one_goes, alternative_goes, meta_pattern_at, positive_stops}
use Rattle.rule_entries.proofs.Levels.{at_pattern, at_patterns, at_either, at_regex}
use Rattle.rule_entries.proofs.formula.+formula.Goals as goal

pub alternatives-returns-in_err-formula : goal.alternatives-returns-in_err-formula
alternatives-returns-in_err-formula g t c =
    let leaf = IsLeaf (g.R.PatternReader.writes c.args.reader.now) c.args.setting in
    let inner = IsFormula c.args.room leaf in
    let p = err_from_is_err_and c.from_residual.result c.from_residual.ensures.1 in
    let e = c.in_err-formula.field-0.0 in
    let read = below_reads (decimal c.loop-place.place) (IsAlternative leaf inner c.index-items-place.result) c.loop-place.found c.alternative-formula.new.found c.alternative-formula.result (Err e) c.alternative-formula.ensures c.in_err-formula.ensures in
    rw (p.1, p.2)
    (turn_stops (AtPlace (IsAlternative leaf inner)) c.args.items.now c.args.found.now c.loop-place.formulas c.loop-place.place c.loop-place.found c.loop-place.invariant c.index-items-place.result (omega (arith, c.loop-place-test.true)) c.index-items-place.is e c.alternative-formula.new.found c.alternative-formula.new.found read)

pub alternatives-loop-place-preserved : goal.alternatives-loop-place-preserved
alternatives-loop-place-preserved g t c =
    let leaf = IsLeaf (g.R.PatternReader.writes c.args.reader.now) c.args.setting in
    let inner = IsFormula c.args.room leaf in
    let read = below_reads (decimal c.loop-place.place) (IsAlternative leaf inner c.index-items-place.result) c.loop-place.found c.alternative-formula.new.found c.alternative-formula.result (Ok c.in_ok-formula.formula) c.alternative-formula.ensures c.in_ok-formula.ensures in
    let turn = turn_goes (AtPlace (IsAlternative leaf inner)) c.args.items.now c.args.found.now c.loop-place.formulas c.loop-place.place c.loop-place.found c.loop-place.invariant c.index-items-place.result (omega (arith, c.loop-place-test.true)) c.index-items-place.is c.in_ok-formula.formula c.alternative-formula.new.found read in
    subst (λ (xs : List Formula). Rest (AtPlace (IsAlternative leaf inner)) c.args.items.now c.args.found.now xs (c.loop-place.place + 1) (drop (c.loop-place.place + 1) c.args.items.now) c.alternative-formula.new.found) (sym c.in_ok-push.ensures.ok) turn

pub alternatives-returns : goal.alternatives-returns
alternatives-returns g t c =
    let leaf = IsLeaf (g.R.PatternReader.writes c.args.reader.now) c.args.setting in
    let inner = IsFormula c.args.room leaf in
    turns_end (AtPlace (IsAlternative leaf inner)) c.args.items.now c.args.found.now c.loop-place.formulas c.loop-place.place c.loop-place.found c.loop-place.invariant c.loop-place-test.false

pub children-returns-in_err-child : goal.children-returns-in_err-child
children-returns-in_err-child g t c =
    let leaf = IsLeaf (g.R.PatternReader.writes c.args.reader.now) c.args.setting in
    let inner = IsFormula c.args.room leaf in
    let p = err_from_is_err_and c.from_residual.result c.from_residual.ensures.1 in
    let e = c.in_err-child.field-0.0 in
    let read = below_reads (decimal c.loop-place.place) (IsChild leaf inner c.index-items-place.result) c.loop-place.found c.child-child.new.found c.child-child.result (Err e) c.child-child.ensures c.in_err-child.ensures in
    rw (p.1, p.2)
    (turn_stops (AtPlace (IsChild leaf inner)) c.args.items.now c.args.found.now c.loop-place.children c.loop-place.place c.loop-place.found c.loop-place.invariant c.index-items-place.result (omega (arith, c.loop-place-test.true)) c.index-items-place.is e c.child-child.new.found c.child-child.new.found read)

pub children-loop-place-preserved : goal.children-loop-place-preserved
children-loop-place-preserved g t c =
    let leaf = IsLeaf (g.R.PatternReader.writes c.args.reader.now) c.args.setting in
    let inner = IsFormula c.args.room leaf in
    let read = below_reads (decimal c.loop-place.place) (IsChild leaf inner c.index-items-place.result) c.loop-place.found c.child-child.new.found c.child-child.result (Ok c.in_ok-child.child) c.child-child.ensures c.in_ok-child.ensures in
    let turn = turn_goes (AtPlace (IsChild leaf inner)) c.args.items.now c.args.found.now c.loop-place.children c.loop-place.place c.loop-place.found c.loop-place.invariant c.index-items-place.result (omega (arith, c.loop-place-test.true)) c.index-items-place.is c.in_ok-child.child c.child-child.new.found read in
    subst (λ (xs : List Child). Rest (AtPlace (IsChild leaf inner)) c.args.items.now c.args.found.now xs (c.loop-place.place + 1) (drop (c.loop-place.place + 1) c.args.items.now) c.child-child.new.found) (sym c.in_ok-push.ensures.ok) turn

pub children-returns : goal.children-returns
children-returns g t c =
    let leaf = IsLeaf (g.R.PatternReader.writes c.args.reader.now) c.args.setting in
    let inner = IsFormula c.args.room leaf in
    turns_end (AtPlace (IsChild leaf inner)) c.args.items.now c.args.found.now c.loop-place.children c.loop-place.place c.loop-place.found c.loop-place.invariant c.loop-place-test.false

pub child_at-returns-in-MetaCompare : goal.child_at-returns-in-MetaCompare
child_at-returns-in-MetaCompare g t c =
    let leaf = IsLeaf (g.R.PatternReader.writes c.args.reader.now) c.args.setting in
    let inner = IsFormula c.args.room leaf in
    compare_at leaf inner c.args.value.now c.args.found.now c.args.found.now c.args.key c.meta_compare.result c.in-MetaCompare.is (c.meta_compare.ensures c.args.found.now)

pub either-returns-in_err-formulas : goal.either-returns-in_err-formulas
either-returns-in_err-formulas g t c =
    let leaf = IsLeaf (g.R.PatternReader.writes c.args.reader.now) c.args.setting in
    let inner = IsFormula c.args.room leaf in
    let p = err_from_is_err_and c.from_residual-in_err-formulas.result c.from_residual-in_err-formulas.ensures.1 in
    rw (p.1, p.2) (either_stops leaf inner c.args.value.now c.args.found.now c.alternatives.new.found c.in_ok-items.items.now c.in_ok-items.ensures c.in_err-formulas.field-0.0 c.in_err-formulas.ensures)

pub either-returns : goal.either-returns
either-returns g t c =
    let leaf = IsLeaf (g.R.PatternReader.writes c.args.reader.now) c.args.setting in
    let inner = IsFormula c.args.room leaf in
    either_goes leaf inner c.args.value.now c.args.found.now c.alternatives.new.found c.in_ok-items.items.now c.in_ok-items.ensures c.in_ok-formulas.formulas c.in_ok-formulas.ensures

pub patterns-returns-in_err-children : goal.patterns-returns-in_err-children
patterns-returns-in_err-children g t c =
    let leaf = IsLeaf (g.R.PatternReader.writes c.args.reader.now) c.args.setting in
    let inner = IsFormula c.args.room leaf in
    let p = err_from_is_err_and c.from_residual-in_err-children.result c.from_residual-in_err-children.ensures.1 in
    rw (p.1, p.2) (patterns_stops leaf inner c.args.value.now c.args.found.now c.children.new.found c.in_ok-items.items.now c.in_ok-items.ensures c.args.bare c.in_err-children.field-0.0 c.in_err-children.ensures)

pub patterns-returns : goal.patterns-returns
patterns-returns g t c =
    let leaf = IsLeaf (g.R.PatternReader.writes c.args.reader.now) c.args.setting in
    let inner = IsFormula c.args.room leaf in
    patterns_goes leaf inner c.args.value.now c.args.found.now c.children.new.found c.in_ok-items.items.now c.in_ok-items.ensures c.args.bare c.in_ok-children.children c.all_of.result c.in_ok-children.ensures c.all_of.ensures

pub formula-returns-in-Pattern : goal.formula-returns-in-Pattern
formula-returns-in-Pattern g t c =
    let leaf = IsLeaf (g.R.PatternReader.writes c.args.reader.now) c.args.setting in
    at_pattern leaf c.args.bare c.args.value.now c.args.found.now c.pattern.new.found c.pattern.result c.args.room c.args.key c.if-room-eq0.false c.in-Pattern.is c.pattern.ensures

pub formula-returns-in-Patterns : goal.formula-returns-in-Patterns
formula-returns-in-Patterns g t c =
    let leaf = IsLeaf (g.R.PatternReader.writes c.args.reader.now) c.args.setting in
    at_patterns leaf c.args.bare c.args.value.now c.args.found.now c.patterns.new.found c.patterns.result c.args.room c.args.key c.if-room-eq0.false c.in-Patterns.is c.patterns.ensures

pub formula-returns-in-Either : goal.formula-returns-in-Either
formula-returns-in-Either g t c =
    let leaf = IsLeaf (g.R.PatternReader.writes c.args.reader.now) c.args.setting in
    at_either leaf c.args.bare c.args.value.now c.args.found.now c.either.new.found c.either.result c.args.room c.args.key c.if-room-eq0.false c.in-Either.is c.either.ensures

pub formula-returns-in-Regex : goal.formula-returns-in-Regex
formula-returns-in-Regex g t c =
    let leaf = IsLeaf (g.R.PatternReader.writes c.args.reader.now) c.args.setting in
    at_regex leaf c.args.bare c.args.value.now c.args.found.now c.regex_formula.new.found c.regex_formula.result c.args.room c.args.key c.if-room-eq0.false c.in-Regex.is c.regex_formula.ensures

pub mapped-returns : goal.mapped-returns
mapped-returns g t c =
    let leaf = IsLeaf (g.R.PatternReader.writes c.args.reader.now) c.args.setting in
    let inner = IsFormula c.args.room leaf in
    mapped_goes leaf inner c.args.value.now c.args.found.now c.one_formula.new.found c.in_ok-entries.entries.now c.one_formula.result c.in_ok-entries.ensures c.one_formula.ensures

pub meta_pattern-returns-in_err-formula : goal.meta_pattern-returns-in_err-formula
meta_pattern-returns-in_err-formula g t c =
    let leaf = IsLeaf (g.R.PatternReader.writes c.args.reader.now) c.args.setting in
    let inner = IsFormula c.args.room leaf in
    let p = err_from_is_err_and c.from_residual-in_err-formula.result c.from_residual-in_err-formula.ensures.1 in
    rw (p.1, p.2) (meta_pattern_stops leaf inner c.args.value.now c.args.found.now c.one_formula.new.found c.in_ok-entries.entries.now c.in_ok-name.name.now c.in_ok-entries.ensures c.in_ok-name.ensures c.in_err-formula.field-0.0 c.in_err-formula.ensures)

pub meta_pattern-returns : goal.meta_pattern-returns
meta_pattern-returns g t c =
    let leaf = IsLeaf (g.R.PatternReader.writes c.args.reader.now) c.args.setting in
    let inner = IsFormula c.args.room leaf in
    subst (λ (n : List ℕ). Reads (IsMetaPattern inner c.args.value.now) c.args.found.now (Ok (children.MetaPattern n c.in_ok-formula.formula)) c.one_formula.new.found) (sym c.in_ok-from_str.ensures)
    (meta_pattern_goes leaf inner c.args.value.now c.args.found.now c.one_formula.new.found c.in_ok-entries.entries.now c.in_ok-name.name.now c.in_ok-entries.ensures c.in_ok-name.ensures c.in_ok-formula.formula c.in_ok-formula.ensures)

pub child-returns : goal.child-returns
child-returns g t c =
    let leaf = IsLeaf (g.R.PatternReader.writes c.args.reader.now) c.args.setting in
    let inner = IsFormula c.args.room leaf in
    child_goes leaf inner c.args.item.now c.args.found.now c.child_at-child.new.found c.in_ok-entries.entries.now (c.in_ok-key.key, c.in_ok-key.entry.now) c.child_at-child.result c.within.result
    c.in_ok-entries.ensures c.in_ok-key.ensures c.child_at-child.ensures (subst (λ (k : List ℕ). IsUnder k c.child_at-child.result c.within.result) c.as_str.ensures c.within.ensures)

pub alternative-returns : goal.alternative-returns
alternative-returns g t c =
    let leaf = IsLeaf (g.R.PatternReader.writes c.args.reader.now) c.args.setting in
    let inner = IsFormula c.args.room leaf in
    alternative_goes leaf inner c.args.item.now c.args.found.now c.alternative_at-formula.new.found c.in_ok-entries.entries.now (c.in_ok-key.key, c.in_ok-key.entry.now) c.alternative_at-formula.result c.within.result
    c.in_ok-entries.ensures c.in_ok-key.ensures c.alternative_at-formula.ensures (subst (λ (k : List ℕ). IsUnder k c.alternative_at-formula.result c.within.result) c.as_str.ensures c.within.ensures)

pub one_formula-returns : goal.one_formula-returns
one_formula-returns g t c =
    let inner = IsFormula c.args.room (IsLeaf (g.R.PatternReader.writes c.args.reader.now) c.args.setting) in
    one_goes (IsFormulaAt inner c.args.bare) c.args.role c.args.found.now c.formula_at-formula.new.found c.args.entries.now (c.in_ok-key.key, c.in_ok-key.entry.now) c.formula_at-formula.result c.within.result
    c.in_ok-key.ensures c.formula_at-formula.ensures (subst (λ (k : List ℕ). IsUnder k c.formula_at-formula.result c.within.result) c.as_str.ensures c.within.ensures)

pub child_at-returns-in-MetaPattern : goal.child_at-returns-in-MetaPattern
child_at-returns-in-MetaPattern g t c =
    let leaf = IsLeaf (g.R.PatternReader.writes c.args.reader.now) c.args.setting in
    let inner = IsFormula c.args.room leaf in
    meta_pattern_at leaf inner c.args.value.now c.args.found.now c.meta_pattern.new.found c.args.key c.meta_pattern.result c.in-MetaPattern.is c.meta_pattern.ensures

pub child_at-returns-in_err-formula-in-Formula : goal.child_at-returns-in_err-formula-in-Formula
child_at-returns-in_err-formula-in-Formula g t c =
    let leaf = IsLeaf (g.R.PatternReader.writes c.args.reader.now) c.args.setting in
    let inner = IsFormula c.args.room leaf in
    let p = err_from_is_err_and c.from_residual.result c.from_residual.ensures.1 in
    rw (p.1, p.2) (positive_stops leaf inner c.args.value.now c.args.found.now _ c.args.key _ c.in_err-formula-in-Formula.field-0.0 c.in-Formula.is c.in_err-formula-in-Formula.ensures)
