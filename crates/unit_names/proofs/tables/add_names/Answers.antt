use Rattle.std.proofs.Common.{◌++◌, ap, ◌∙◌}
use Rattle.std.specs.List.{flat_map}
use Rattle.unit_names.specs.Seen.{all_words}
use Rattle.unit_names.specs.Names as spec
use Rattle.unit_names.proofs.Loops.{plain_done, copied_more}
use Rattle.std.proofs.Common.{append_assoc}
use Rattle.unit_names.proofs.tables.add_names.Goals as goal

pub loop-point-preserved : goal.loop-point-preserved
loop-point-preserved c = copied_more (spec.names_at c.args.tree.now) c.as_slice-point-items.result.now c.loop-point.point-index _ _ _ _ c.loop-point-test.true c.loop-point.invariant c.in_ok-add_names_at.ensures

pub returns : goal.returns
returns c = c.in_ok-add_parameters.ensures ∙ ap (λ ws. ws ++ spec.parameter_words c.args.tree.now c.args.scope.now.unit) (plain_done (spec.names_at c.args.tree.now) c.as_slice-point-items.result.now c.loop-point.point-index _ _ c.loop-point-test.false c.loop-point.invariant ∙ ap (λ ps. all_words c.args.into.now ++ flat_map (spec.names_at c.args.tree.now) ps) c.as_slice-point-items.ensures) ∙ append_assoc (all_words c.args.into.now) (flat_map (spec.names_at c.args.tree.now) c.args.scope.now.graph.points) (spec.parameter_words c.args.tree.now c.args.scope.now.unit)
