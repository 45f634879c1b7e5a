use Rattle.taint_tables.proofs.FactLists.{one_pushed, none_pushed, told_some, told_none}
use Rattle.taint_tables.proofs.facts.Look.add_fact.Goals as goal

pub returns-in_ok-push-in-Some : goal.returns-in_ok-push-in-Some
returns-in_ok-push-in-Some c = one_pushed _ _ _ c.in-Some.fact (told_some _ _ c.in-Some.fact c.in_ok-fact.ensures c.in-Some.is) c.in_ok-push-in-Some.ensures.items

pub returns-in-None : goal.returns-in-None
returns-in-None c = none_pushed _ _ (told_none _ _ c.in_ok-fact.ensures c.in-None.is)
