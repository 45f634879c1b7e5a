use Rattle.std.proofs.lemmas.List.Sorted.{Contains-permutation, IsNonDecreasingBy-from_sort}
use Rattle.tree_match.proofs.same_kids.sorted.Goals as goal

pub returns-clause-same : goal.returns-clause-same
returns-clause-same c k there = Contains-permutation _ _ k c.in_ok-sort.ensures.permutation there

pub returns-clause-order : goal.returns-clause-order
returns-clause-order c i j d le lt = IsNonDecreasingBy-from_sort (λ x. x) _ c.in_ok-sort.ensures.sorted i j d le lt
