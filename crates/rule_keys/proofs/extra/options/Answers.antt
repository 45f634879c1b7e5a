use Rattle.std.proofs.Common.{codes}
use Rattle.rule_keys.specs.Misfits.{under}
use Rattle.rule_keys.specs.Extras.{inner_of, unread_in}
use Rattle.rule_keys.proofs.Folds.{fits_under, fits_then}
use Rattle.rule_keys.proofs.extra.options.Goals as goal

pub returns : goal.returns
returns c =
    fits_then (inner_of (codes "options") c.args.entries.now) (λ es. under (codes "options") (unread_in es)) c.in_ok-options.options.now c.within.result c.in_ok-options.ensures
    (fits_under (codes "options") (unread_in c.in_ok-options.options.now) c.unread_of.result c.within.result c.unread_of.ensures c.within.ensures)
