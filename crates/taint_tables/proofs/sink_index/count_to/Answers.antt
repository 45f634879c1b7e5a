use Rattle.std.proofs.Common.{ℕ, leb, rules, of_calls}
use Rattle.std.proofs.lemmas.List.Sorted.{IsPartitionPoint-from_clause, IsPartitionedBy-leb}
use Rattle.taint_tables.specs.declared.sink.Sink.{Sink}
use Rattle.taint_tables.proofs.Halving.{through}
use Rattle.taint_tables.proofs.sink_index.count_to.Goals as goal

pub returns-clause-parts : goal.returns-clause-parts
returns-clause-parts c =
    let begin : Sink → ℕ = λ s. s.range.from in
    through begin c.args.sinks.now c.args.last_begin c.partition_point.result
    (IsPartitionPoint-from_clause (λ (s : Sink). leb s.range.from c.args.last_begin) c.args.sinks.now _ c.partition_point.ensures.partitioned (IsPartitionedBy-leb begin c.args.sinks.now c.args.last_begin c.requires)
    (λ a r f k. search (rules, of_calls)))
