use Rattle.std.proofs.Common.{◌++◌, ap, ◌∙◌}
use Rattle.std.specs.List.{flat_map}
use Rattle.unit_names.specs.Seen.{all_words}
use Rattle.unit_names.specs.Names as spec
use Rattle.unit_names.proofs.Loops.{plain_done, copied_more}
use Rattle.unit_names.proofs.tables.add_literals.Goals as goal

pub loop-point-preserved : goal.loop-point-preserved
loop-point-preserved c = copied_more (spec.literals_at c.args.tree.now) c.as_slice-point-items.result.now c.loop-point.point-index _ _ _ _ c.loop-point-test.true c.loop-point.invariant c.in_ok-add_literals_at.ensures

pub returns : goal.returns
returns c = plain_done (spec.literals_at c.args.tree.now) c.as_slice-point-items.result.now c.loop-point.point-index _ _ c.loop-point-test.false c.loop-point.invariant ∙ ap (λ ps. all_words c.args.into.now ++ flat_map (spec.literals_at c.args.tree.now) ps) c.as_slice-point-items.ensures
