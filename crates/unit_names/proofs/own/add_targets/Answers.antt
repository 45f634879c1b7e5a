use Rattle.std.proofs.Common.{ap}
use Rattle.unit_names.specs.Seen.{all_words}
use Rattle.unit_names.specs.Names as spec
use Rattle.unit_names.proofs.Loops.{seen_more}
use Rattle.assignments.proofs.Loops.{flat_done}
use Rattle.assignments.specs.Seen.{seen_target, all_targets}
use Rattle.unit_names.proofs.own.add_targets.Goals as goal

pub loop-target-preserved : goal.loop-target-preserved
loop-target-preserved c = seen_more seen_target spec.target_word c.as_slice-target-items.result.now c.loop-target.target-index _ _ _ _ c.loop-target-test.true c.loop-target.invariant c.in_ok-add_target.ensures

pub returns : goal.returns
returns c = flat_done seen_target spec.target_word c.as_slice-target-items.result.now c.loop-target.target-index _ (all_words c.args.into.now) _ c.loop-target-test.false (ap all_targets c.as_slice-target-items.ensures) c.loop-target.invariant
