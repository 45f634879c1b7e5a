use Rattle.std.proofs.Common.{rules, of_calls, ltb, ltb-true, ltb-false}
use Rattle.std.proofs.lemmas.List.Sorted.{IsPartitionPoint-from_clause, IsPartitionedBy-ltb}
use Rattle.tree_match.proofs.same_kids.count_below.Goals as goal

pub returns : goal.returns
returns c =
    let point = IsPartitionPoint-from_clause (λ y. ltb y c.args.least) c.args.places.now _ c.partition_point.ensures.partitioned (IsPartitionedBy-ltb (λ y. y) c.args.places.now c.args.least c.requires) (λ a r f k. search (rules, of_calls)) in
    (λ k d from below. ltb-true _ _ (point.0 k d from below), λ k d from below. ltb-false _ _ (point.1 k d from below))
