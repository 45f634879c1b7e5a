use Rattle.std.proofs.Common.{sym}
use Rattle.taint_tables.proofs.FactLists.{one_pushed, none_pushed, found_only, found_none}
use Rattle.taint_tables.proofs.facts.Look.add_source.Goals as goal

pub returns-in_ok-push-in-Some : goal.returns-in_ok-push-in-Some
returns-in_ok-push-in-Some c = one_pushed _ _ _ c.in-Some.source (found_only _ _ (sym c.in-Some.ensures)) c.in_ok-push-in-Some.ensures.items

pub returns-in-None : goal.returns-in-None
returns-in-None c = none_pushed _ _ (found_none _ (sym c.in-None.ensures))
