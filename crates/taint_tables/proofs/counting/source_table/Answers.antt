use Rattle.std.proofs.Common.{◌↔◌, List, subst}
use Rattle.std.specs.Prelude.{filter}
use Rattle.std.proofs.lemmas.List.{take_all}
use Rattle.node_tree.specs.declared.span.Span.{Span}
use Rattle.graph_form.specs.Sets.{Among}
use Rattle.flow_reach.proofs.Steps.{either_way}
use Rattle.taint_form.specs.Expressions.{has_span}
use Rattle.taint_tables.proofs.CensusLoops.{passed_more}
use Rattle.taint_tables.proofs.counting.source_table.Goals as goal

abbrev none : Span
none = record { from = 0; to = 0 }

pub loop-span-init : goal.loop-span-init
loop-span-init c = record {
  numbers = c.new-table.ensures.numbers;
  same = λ sources holds s. (λ h. (let P : List Span → Type 0 = λ ks. Among ks s in subst P c.new-table.ensures.empty h), λ none. absurd none);
}

pub loop-span-preserved : goal.loop-span-preserved
loop-span-preserved c = record {
  numbers = c.in_ok-add_source.ensures.numbers;
  same = λ sources holds s. either_way _ _ _ _ _ _ (c.in_ok-add_source.ensures.same sources holds s) (c.loop-span.invariant.same sources holds s) (λ h. h, λ h. h) (passed_more (has_span sources) c.args.spans.now c.loop-span.span-index none c.loop-span-test.true s);
}

pub returns-clause-same : goal.returns-clause-same
returns-clause-same c sources holds s =
    let P : List Span → Type 0 = λ xs. Among c.loop-span.table.keys.items s ↔ Among (filter (has_span sources) xs) s in
    subst P (take_all c.loop-span.span-index c.args.spans.now c.loop-span-test.false) (c.loop-span.invariant.same sources holds s)
