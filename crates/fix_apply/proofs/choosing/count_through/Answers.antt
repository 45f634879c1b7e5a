use Rattle.std.proofs.Common.{rules, of_calls}
use Rattle.std.proofs.lemmas.List.Sorted.{IsPartitionPoint-from_clause}
use Rattle.fix_apply.specs.Order.{is_through}
use Rattle.fix_apply.proofs.Places.{parts_through}
use Rattle.fix_apply.proofs.choosing.count_through.Goals as goal

pub returns-clause-parts : goal.returns-clause-parts
returns-clause-parts c =
    IsPartitionPoint-from_clause (is_through c.args.path.now) c.args.results.now _ c.partition_point.ensures.partitioned (parts_through c.args.path.now c.args.results.now c.requires)
    (λ a r f k. search (rules, of_calls))
