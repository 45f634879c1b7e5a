use Rattle.graph_form.specs.declared.graph.Point.{Point}
use Rattle.graph_form.specs.declared.graph.Role.TheVariants.{Entry}
use Rattle.graph_form.proofs.Amongs.{among_at}
use Rattle.taint_trace.proofs.Paths.{points_more}
use Rattle.taint_trace.proofs.places.points_at.Goals as goal

abbrev none : Point
none = record { node = 0; role = Entry }

pub bounds-points-place : goal.bounds-points-place
bounds-points-place c = c.requires _ (among_at c.args.places.now c.loop-place.place-index 0 c.loop-place-test.true)

pub loop-place-preserved : goal.loop-place-preserved
loop-place-preserved c =
    let there = c.requires _ (among_at c.args.places.now c.loop-place.place-index 0 c.loop-place-test.true) in
    points_more c.args.points.now c.args.places.now c.loop-place.path c.push.new.self c.loop-place.place-index none c.loop-place-test.true there c.loop-place.invariant c.in_ok-push.ensures.ok
