use Rattle.std.proofs.Common.{◌++◌, map, ap, ◌∙◌}
use Rattle.std.proofs.lemmas.List.{take_all}
use Rattle.assignments.specs.Seen.{Named, all_targets}
use Rattle.taint_tables.specs.Censuses.{texts}
use Rattle.taint_tables.proofs.CensusLoops.{named_more}
use Rattle.taint_tables.proofs.counting.add_targets.Goals as goal

pub loop-target-preserved : goal.loop-target-preserved
loop-target-preserved c = named_more c.args.targets.now c.loop-target.target-index _ c.args.into.now c.loop-target.into c.push.new.self c.loop-target-test.true c.loop-target.invariant c.in_ok-push.ensures.ok

pub returns : goal.returns
returns c = c.loop-target.invariant ∙ ap (λ ts. texts c.args.into.now ++ map (λ (t : Named). t.name) (all_targets ts)) (take_all c.loop-target.target-index c.args.targets.now c.loop-target-test.false)
