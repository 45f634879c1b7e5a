use Rattle.std.proofs.Common.{rules}
use Rattle.std.proofs.lemmas.List.Sorted.{IsNonDecreasingBy-from_sort_by_key}
use Rattle.graph_form.proofs.Amongs.{same_items}
use Rattle.taint_tables.specs.declared.sink.Sink.{Sink}
use Rattle.taint_tables.proofs.sink_index.in_order.Goals as goal

pub returns-clause-same : goal.returns-clause-same
returns-clause-same c = same_items _ _ c.sort_by_key.ensures.permutation

pub returns-clause-order : goal.returns-clause-order
returns-clause-order c = IsNonDecreasingBy-from_sort_by_key (λ (s : Sink). s.range.from) _ c.in_ok-sort_by_key.ensures.sorted (λ a r q k. search rules)
