use Rattle.std.proofs.Common.{◌≡◌, List, [], ◌++◌, map, ap, ◌∙◌}
use Rattle.std.specs.List.{flat_map}
use Rattle.std.proofs.lemmas.List.{take_all}
use Rattle.node_tree.specs.declared.span.Span.{Span}
use Rattle.node_tree.specs.Numbers.{Numbered}
use Rattle.node_tree.specs.Tree.{span_of}
use Rattle.node_pool.specs.Spots.{all_seen}
use Rattle.graph_form.specs.declared.graph.Point.{Point}
use Rattle.graph_form.specs.declared.graph.Role.TheVariants.{Entry}
use Rattle.assignments.specs.Declarators.{parameters_of}
use Rattle.unit_names.proofs.Loops.{copied_more}
use Rattle.taint_tables.specs.Names.{spans_at}
use Rattle.taint_trace.proofs.standing.spans_of.Goals as goal

abbrev none : Point
none = record { node = 0; role = Entry }

pub loop-point-preserved : goal.loop-point-preserved
loop-point-preserved c =
    copied_more (spans_at c.args.tree.now) c.as_slice-point-items.result.now c.loop-point.point-index none [] c.loop-point.spans c.add_point.new.into c.loop-point-test.true c.loop-point.invariant c.in_ok-add_point.ensures

pub returns : goal.returns
returns c =
    let spans = c.loop-point.spans in
    let items = c.as_slice-point-items.result.now in
    let At : List Point → List Span = flat_map (spans_at c.args.tree.now) in
    let Of : List Numbered → List Span = map (λ (s : Numbered). span_of s.node) in
    let at_points : spans ≡ At c.args.scope.now.graph.points = c.loop-point.invariant ∙ ap At (take_all c.loop-point.point-index items c.loop-point-test.false) ∙ ap At c.as_slice-point-items.ensures in
    c.in_ok-add_spans.ensures ∙ ap (λ xs. spans ++ Of (all_seen xs)) c.as_slice.ensures ∙ ap (λ (ss : List Numbered). spans ++ Of ss) c.in_ok-names.ensures
    ∙ ap (λ (ss : List Span). ss ++ Of (parameters_of c.args.tree.now c.args.scope.now.unit)) at_points
