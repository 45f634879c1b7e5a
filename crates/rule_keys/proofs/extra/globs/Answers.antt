use Rattle.std.proofs.Common.{List, ℕ, subst}
use Rattle.std.specs.Prelude.{Option}
use Rattle.yaml_cells.specs.declared.value.YValue.{YValue}
use Rattle.rule_keys.specs.Misfits.{Fits}
use Rattle.rule_keys.specs.Extras.{listed, globs_by}
use Rattle.rule_keys.proofs.Folds.{fits_under}
use Rattle.rule_keys.proofs.extra.globs.Goals as goal

pub returns : goal.returns
returns c =
    subst (λ (o : Option YValue). Fits (λ (x : List (List ℕ)). x) (globs_by c.args.key.now o) c.within.result) c.in-Some.ensures
    (fits_under c.args.key.now (listed c.in-Some.value.now) c.listed.result c.within.result c.listed.ensures c.within.ensures)
