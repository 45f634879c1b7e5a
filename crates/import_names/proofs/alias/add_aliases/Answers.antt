use Rattle.import_names.specs.Claims as spec
use Rattle.import_names.proofs.Loops.{added_more}
use Rattle.import_names.proofs.alias.add_aliases.Goals as goal

pub loop-alias-preserved : goal.loop-alias-preserved
loop-alias-preserved c = added_more (spec.alias_claims c.args.origin.now) c.args.aliases.now c.loop-alias.alias-index c.alias-item.result _ _ _ c.loop-alias-test.true c.alias-item.is c.loop-alias.invariant c.in_ok-add_alias.ensures
