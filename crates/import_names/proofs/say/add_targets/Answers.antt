use Rattle.assignments.specs.Seen.{seen_target}
use Rattle.import_names.specs.Claims as spec
use Rattle.import_names.proofs.Loops.{defaulted_more}
use Rattle.import_names.proofs.say.add_targets.Goals as goal

pub loop-one-preserved : goal.loop-one-preserved
loop-one-preserved c =
    defaulted_more seen_target spec.target_claims c.args.targets.now c.loop-one.one-index _ _ _ _ c.loop-one-test.true c.loop-one.invariant c.in_ok-add_target.ensures
