use Rattle.std.proofs.Common.{rules, of_calls}
use Rattle.std.proofs.lemmas.List.Sorted.{IsPartitionPoint-from_clause}
use Rattle.import_names.specs.Ordered.{is_before}
use Rattle.import_names.proofs.Ordering.{parts_before}
use Rattle.import_names.proofs.meanings.count_before.Goals as goal

pub returns-clause-parts : goal.returns-clause-parts
returns-clause-parts c =
    IsPartitionPoint-from_clause (is_before c.args.name.now) c.args.claims.now _ c.partition_point.ensures.partitioned (parts_before c.args.name.now c.args.claims.now c.requires)
    (λ a r f k. search (rules, of_calls))
