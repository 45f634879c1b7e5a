use Rattle.std.proofs.Common.{ℕ, List, subst}
use Rattle.rule_keys.specs.Misfits.{IsUnder}
use Rattle.rule_entries.specs.Bodies.{IsFormulas, IsFormulaOf}
use Rattle.rule_entries.proofs.Laws.{below_reads}
use Rattle.rule_entries.proofs.body.formulas_at.Goals as goal

pub returns : goal.returns
returns g c =
    let inner = IsFormulaOf (g.R.PatternReader.writes c.args.reader.now) c.args.setting in
    let under = subst (λ (k : List ℕ). IsUnder k c.taint_items-all.result c.within.result) c.as_str.ensures c.within.ensures in
    below_reads c.args.entry.now.0 (IsFormulas inner c.args.entry.now.1) c.args.found.now c.taint_items-all.new.found c.taint_items-all.result c.within.result c.taint_items-all.ensures under
