use Rattle.std.proofs.Common.{◌++◌, ap, ◌∙◌}
use Rattle.std.proofs.lemmas.List.{take_all}
use Rattle.const_prop.specs.Settled.{all_sightings}
use Rattle.const_prop.specs.Views.{held_at, sightings_from}
use Rattle.const_prop.proofs.Seeing.{from_more}
use Rattle.const_prop.proofs.view.View.add_unit.Goals as goal

pub loop-place-preserved : goal.loop-place-preserved
loop-place-preserved c =
    from_more c.args.tree.now (held_at c.args.self.now) c.as_slice-point-items.result.now c.loop-place.place _ (all_sightings c.args.into.now.items) _ _ c.loop-place-test.true c.loop-place.invariant c.in_ok-add_point.ensures

pub returns : goal.returns
returns c =
    c.loop-place.invariant
    ∙ ap (λ ps. all_sightings c.args.into.now.items ++ sightings_from c.args.tree.now (held_at c.args.self.now) 0 ps) (take_all c.loop-place.place c.as_slice-point-items.result.now c.loop-place-test.false ∙ c.as_slice-point-items.ensures)
