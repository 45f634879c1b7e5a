use Rattle.std.proofs.Common.{◌↔◌, List, take}
use Rattle.std.specs.Prelude.{filter}
use Rattle.node_tree.specs.declared.span.Span.{Span}
use Rattle.node_tree.specs.Span.{span_cmp}
use Rattle.graph_form.specs.Sets.{Among}
use Rattle.taint_form.specs.Expressions.{has_span}
use Rattle.taint_form.specs.Tables.{AreNumbers, Holds}
use Rattle.taint_tables.proofs.counting.source_table.Given as goal

abbrev pub invariant-loop-span : goal.invariant-loop-span
invariant-loop-span l = record {
  numbers : AreNumbers span_cmp l.table.numbers l.table.keys.items;
  same : (sources : List Span) → Holds l.all sources → (s : Span) → Among l.table.keys.items s ↔ Among (filter (has_span sources) (take l.span-index l.spans)) s;
}
