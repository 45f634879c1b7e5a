use Rattle.std.proofs.Common.{rules, of_calls}
use Rattle.std.proofs.lemmas.List.Sorted.{IsPartitionPoint-from_clause}
use Rattle.taint_trace.proofs.SpanOrder.{comes_until, parted_until, ends_through}
use Rattle.taint_trace.proofs.lookup.count_through.Goals as goal

pub returns-clause-parts : goal.returns-clause-parts
returns-clause-parts c =
    let span = c.args.span in
    let xs = c.args.standings.now in
    ends_through span xs c.partition_point.result (IsPartitionPoint-from_clause (comes_until span xs) xs _ c.partition_point.ensures.partitioned (parted_until span xs c.requires) (λ a r f k. search (rules, of_calls)))
