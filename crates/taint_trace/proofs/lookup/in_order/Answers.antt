use Rattle.std.proofs.Common.{rules}
use Rattle.std.proofs.lemmas.List.Sorted.{answers_always}
use Rattle.graph_form.proofs.Amongs.{same_items}
use Rattle.taint_trace.specs.declared.standing.Standing.{Standing}
use Rattle.taint_trace.proofs.lookup.in_order.Goals as goal

pub returns-clause-same : goal.returns-clause-same
returns-clause-same c = same_items _ _ c.sort_by_key.ensures.permutation

pub returns-clause-order : goal.returns-clause-order
returns-clause-order c = c.in_ok-sort_by_key.ensures.sorted (λ (s : Standing). s.span) (answers_always _ _ _ (λ f a r q k. search rules))
