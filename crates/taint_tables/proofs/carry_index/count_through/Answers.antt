use Rattle.std.proofs.Common.{ℕ, leb, rules, of_calls}
use Rattle.std.proofs.lemmas.List.Sorted.{IsPartitionPoint-from_clause, IsPartitionedBy-leb}
use Rattle.taint_tables.specs.declared.sets.Carry.{Carry}
use Rattle.taint_tables.proofs.Halving.{through}
use Rattle.taint_tables.proofs.carry_index.count_through.Goals as goal

pub returns-clause-parts : goal.returns-clause-parts
returns-clause-parts c =
    let begin : Carry → ℕ = λ k. k.range.from in
    through begin c.args.carries.now c.args.from c.partition_point.result
    (IsPartitionPoint-from_clause (λ (k : Carry). leb k.range.from c.args.from) c.args.carries.now _ c.partition_point.ensures.partitioned (IsPartitionedBy-leb begin c.args.carries.now c.args.from c.requires)
    (λ a r f k. search (rules, of_calls)))
