use Rattle.std.proofs.Common.{◌+◌, ◌++◌, ◌∷◌, [], ℕ, List, get_or, map, drop, sym, ap, ◌∙◌}
use Rattle.std.proofs.lemmas.List.{drop_all, get_or_default}
use Rattle.graph_form.specs.declared.graph.Point.{Point}
use Rattle.graph_form.specs.declared.graph.Role.{Role}
use Rattle.graph_form.specs.declared.graph.Role.TheVariants.{Entry}
use Rattle.meta_bind.proofs.Lookups.{opened}
use Rattle.running_rules.proofs.Members.{map_step, map_end}
use Rattle.file_results.specs.Followed.{stop_among, stops_among}
use Rattle.file_results.proofs.tracing.stops_at.Goals as goal

abbrev none : Point
none = record { node = 0; role = Entry }

pub loop-point-init : goal.loop-point-init
loop-point-init c = ap (λ (xs : List (ℕ × Role)). xs ++ map (stop_among c.args.tree.now) c.in-Some.points.now) c.new-stops.ensures

pub loop-point-preserved : goal.loop-point-preserved
loop-point-preserved c =
    let f = stop_among c.args.tree.now in
    let ps = c.in-Some.points.now in
    let i = c.loop-point.point-index in
    let old = c.loop-point.stops in
    let lt = c.loop-point-test.true in
    let p = get_or ps i none in
    map_step f old c.push.new.self p (drop i ps) (drop (i + 1) ps) (map f ps) c.loop-point.invariant (opened ps i p lt (get_or_default ps i none p lt)) (c.in_ok-push.ensures.ok ∙ ap (λ (x : ℕ × Role). old ++ x ∷ []) c.stop_at.ensures)

pub returns : goal.returns
returns c =
    let f = stop_among c.args.tree.now in
    let ps = c.in-Some.points.now in
    let i = c.loop-point.point-index in
    map_end f c.loop-point.stops (drop i ps) (map f ps) c.loop-point.invariant (drop_all i ps c.loop-point-test.false) ∙ ap (stops_among c.args.tree.now) (sym c.in-Some.ensures.cases.0)
