use Rattle.taint_tables.proofs.FactLists.{two_pushed}
use Rattle.taint_tables.proofs.facts.Look.add_facts.Goals as goal

pub returns : goal.returns
returns c = two_pushed _ _ _ _ _ c.in_ok-add_source.ensures c.in_ok-add_name.ensures
