use Rattle.std.proofs.Common.{◌≡◌, ap, ◌∙◌}
use Rattle.file_map.specs.Seen.{lent}
use Rattle.session.proofs.Walks.{fixed_more}
use Rattle.session.proofs.fixing.fixed_files.Goals as goal

pub loop-path-preserved : goal.loop-path-preserved
loop-path-preserved c = fixed_more lent c.args.results.now c.as_slice-path-items.result.now c.loop-path.path-index c.loop-path-item.result _ c.loop-path-test.true c.loop-path-item.is c.loop-path.fixed c.add_fixed.new.fixed c.loop-path.invariant _ (ap (λ b. (c.loop-path-item.result.0.now, b)) (c.as_slice.ensures ∙ c.as_ref.ensures)) c.in_ok-add_fixed.ensures
