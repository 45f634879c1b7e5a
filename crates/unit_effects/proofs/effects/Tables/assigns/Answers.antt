use Rattle.std.proofs.Common.{[], ap, ◌∙◌}
use Rattle.std.specs.List.{flat_map}
use Rattle.assignments.specs.Seen.{all_targets, seen_target}
use Rattle.unit_names.proofs.Loops.{seen_more}
use Rattle.assignments.proofs.Loops.{flat_done}
use Rattle.unit_effects.specs.Numbering as nums
use Rattle.unit_effects.proofs.effects.Tables.assigns.Goals as goal

pub loop-target-preserved : goal.loop-target-preserved
loop-target-preserved c = seen_more seen_target (nums.target_assigns c.args.self.now.names.now (nums.hides c.args.entry.now) c.given-source.result) c.as_slice-target-items.result.now c.loop-target.target-index _ [] _ _ c.loop-target-test.true c.loop-target.invariant c.in_ok-add_target.ensures

pub returns : goal.returns
returns c = flat_done seen_target (nums.target_assigns c.args.self.now.names.now (nums.hides c.args.entry.now) c.given-source.result) c.as_slice-target-items.result.now c.loop-target.target-index _ [] _ c.loop-target-test.false (ap all_targets c.as_slice-target-items.ensures) c.loop-target.invariant ∙ ap (λ source. flat_map (nums.target_assigns c.args.self.now.names.now (nums.hides c.args.entry.now) source) (all_targets c.args.one.now.targets)) c.given-source.ensures
