use Rattle.std.proofs.Common.{subst, Err}
use Rattle.meta_filter.specs.Comparisons.{GivesComparison}
use Rattle.meta_filter.specs.declared.fault.CompareFault.{CompareFault}
use Rattle.rule_entries.proofs.Finding.{compared, uncompared}
use Rattle.rule_entries.proofs.formula.comparison.Goals as goal

pub returns-in-Ok : goal.returns-in-Ok
returns-in-Ok c = λ s. compared c.args.text.now s c.in-Ok.comparison c.in-Ok.ensures.found c.in-Ok.ensures.only

pub returns-in-Err-NoComparison : goal.returns-in-Err-NoComparison
returns-in-Err-NoComparison c = λ s.
    uncompared c.args.text.now s c.here.result s (λ d is. subst (λ (f : CompareFault). GivesComparison d (Err f)) c.in-Err-NoComparison.field-0-is (c.in-Err-NoComparison.ensures.only d is)) c.here.ensures
