use Rattle.std.proofs.Common.{rules}
use Rattle.std.proofs.lemmas.List.Sorted.{answers_always}
use Rattle.import_names.proofs.Ordering.{lower, lower_weak, same_meaning}
use Rattle.import_names.proofs.meanings.in_order.Goals as goal

pub returns-clause-ordered : goal.returns-clause-ordered
returns-clause-ordered c = c.in_ok-sort_by.ensures.sorted lower lower_weak (answers_always _ _ _ (λ f a r k h. search rules))

pub returns-clause-same : goal.returns-clause-same
returns-clause-same c = same_meaning _ _ (c.sort_by.ensures.stable lower lower_weak (answers_always _ _ _ (λ f a r k h. search rules)))
