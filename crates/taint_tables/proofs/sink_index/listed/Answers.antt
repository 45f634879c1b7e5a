use Rattle.std.proofs.Common.{◌↔◌, List, subst}
use Rattle.std.proofs.lemmas.List.{take_all}
use Rattle.node_tree.specs.declared.span.Span.{Span}
use Rattle.graph_form.specs.Sets.{Among}
use Rattle.taint_tables.specs.Sinks.{IsSinkOf}
use Rattle.taint_tables.proofs.SinkLists.{listed_more}
use Rattle.taint_tables.proofs.sink_index.listed.Goals as goal

pub loop-place-preserved : goal.loop-place-preserved
loop-place-preserved c = listed_more c.args.sinks.now c.loop-place.place _ c.loop-place.all.items _ c.loop-place-test.true c.loop-place.invariant c.in_ok-push.ensures.items

pub returns : goal.returns
returns c s =
    let P : List Span → Type 0 = λ xs. Among c.loop-place.all.items s ↔ IsSinkOf xs s in
    subst P (take_all c.loop-place.place c.args.sinks.now c.loop-place-test.false) (c.loop-place.invariant s)
