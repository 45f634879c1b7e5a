use Rattle.std.proofs.Common.{◌++◌, ap, ◌∙◌}
use Rattle.std.specs.List.{flat_map}
use Rattle.std.proofs.lemmas.List.{take_all}
use Rattle.graph_form.specs.declared.graph.Point.{Point}
use Rattle.graph_form.specs.declared.graph.Role.TheVariants.{Entry}
use Rattle.unit_names.proofs.Loops.{copied_more}
use Rattle.taint_tables.specs.Censuses.{texts}
use Rattle.taint_tables.specs.Names.{names_at, spans_at}
use Rattle.taint_tables.proofs.counting.add_points.Goals as goal

abbrev none : Point
none = record { node = 0; role = Entry }

pub loop-point-preserved : goal.loop-point-preserved
loop-point-preserved c =
    let points = c.args.points.now in
    let i = c.loop-point.point-index in
    record {
      names = copied_more (names_at c.args.tree.now) points i none (texts c.args.names.now) (texts c.loop-point.names) (texts c.add_point.new.names) c.loop-point-test.true c.loop-point.invariant.names c.in_ok-add_point.ensures.names;
      spans = copied_more (spans_at c.args.tree.now) points i none c.args.spans.now c.loop-point.spans c.add_point.new.spans c.loop-point-test.true c.loop-point.invariant.spans c.in_ok-add_point.ensures.spans;
    }

pub returns-clause-names : goal.returns-clause-names
returns-clause-names c = c.loop-point.invariant.names ∙ ap (λ ps. texts c.args.names.now ++ flat_map (names_at c.args.tree.now) ps) (take_all c.loop-point.point-index c.args.points.now c.loop-point-test.false)

pub returns-clause-spans : goal.returns-clause-spans
returns-clause-spans c = c.loop-point.invariant.spans ∙ ap (λ ps. c.args.spans.now ++ flat_map (spans_at c.args.tree.now) ps) (take_all c.loop-point.point-index c.args.points.now c.loop-point-test.false)
