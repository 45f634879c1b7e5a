use Rattle.std.proofs.Common.{rules, of_calls}
use Rattle.std.specs.Ordering.{is_lt}
use Rattle.std.proofs.lemmas.List.Sorted.{IsPartitionPoint-from_clause}
use Rattle.place_join.specs.Joined.{place_cmp}
use Rattle.place_join.proofs.Places.{parted}
use Rattle.place_join.proofs.place.count_before.Goals as goal

pub returns : goal.returns
returns c =
    IsPartitionPoint-from_clause (λ m. is_lt (place_cmp m c.args.one.now)) c.args.members.now _ c.partition_point.ensures.partitioned (parted c.args.one.now c.args.members.now c.requires)
    (λ a r f k. search (rules, of_calls))
