use Rattle.std.proofs.Common.{rules, of_calls}
use Rattle.std.proofs.lemmas.List.Sorted.{IsPartitionPoint-from_clause}
use Rattle.taint_trace.proofs.SpanOrder.{comes_before, parted_before, ends_before}
use Rattle.taint_trace.proofs.lookup.count_before.Goals as goal

pub returns-clause-parts : goal.returns-clause-parts
returns-clause-parts c =
    let span = c.args.span in
    let xs = c.args.standings.now in
    ends_before span xs c.partition_point.result (IsPartitionPoint-from_clause (comes_before span xs) xs _ c.partition_point.ensures.partitioned (parted_before span xs c.requires) (λ a r f k. search (rules, of_calls)))
