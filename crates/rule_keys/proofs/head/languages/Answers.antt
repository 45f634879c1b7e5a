use Rattle.std.proofs.Common.{codes}
use Rattle.rule_keys.specs.Misfits.{under}
use Rattle.rule_keys.specs.Values.{required}
use Rattle.rule_keys.specs.Heads.{langs_of}
use Rattle.rule_keys.proofs.Folds.{fits_under, fits_then}
use Rattle.rule_keys.proofs.head.languages.Goals as goal

pub returns : goal.returns
returns c =
    fits_then (required (codes "languages") c.args.entries.now) (λ v. under (codes "languages") (langs_of v)) c.in_ok-value.value.now c.within.result c.in_ok-value.ensures
    (fits_under (codes "languages") (langs_of c.in_ok-value.value.now) c.langs.result c.within.result c.langs.ensures c.within.ensures)
