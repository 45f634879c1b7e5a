use Rattle.std.proofs.Common.{codes}
use Rattle.rule_keys.specs.Misfits.{under}
use Rattle.rule_keys.specs.Extras.{inner_of, paths_in}
use Rattle.rule_keys.proofs.Folds.{fits_under, fits_then}
use Rattle.rule_keys.proofs.extra.paths_of.Goals as goal

pub returns : goal.returns
returns c =
    fits_then (inner_of (codes "paths") c.args.entries.now) (λ es. under (codes "paths") (paths_in es)) c.in_ok-paths.paths.now c.within.result c.in_ok-paths.ensures
    (fits_under (codes "paths") (paths_in c.in_ok-paths.paths.now) c.globs_of.result c.within.result c.globs_of.ensures c.within.ensures)
