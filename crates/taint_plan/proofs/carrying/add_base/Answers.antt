use Rattle.assignments.specs.declared.assignment.Reach.TheVariants.{Base}
use Rattle.assignments.specs.Targets.{targets}
use Rattle.node_pool.specs.Spots.{seen}
use Rattle.taint_tables.specs.Taints.{IsFactOf}
use Rattle.taint_tables.specs.Numbers.{numbers_of}
use Rattle.taint_plan.specs.RowFacts.{IsBaseFact}
use Rattle.taint_tables.proofs.FactLists.{base_some, base_none, pushed_same, none_pushed}
use Rattle.taint_plan.proofs.carrying.add_base.Goals as goal

pub returns-in-None : goal.returns-in-None
returns-in-None c =
    let numbers = numbers_of c.args.look.census.now in
    none_pushed (IsBaseFact numbers (seen c.args.spot)) c.args.into.now.items (λ f. base_none numbers (targets Base (seen c.args.spot)) f (c.in-None.ensures c.args.spot.at))

pub returns-in_ok-add_fact-in-Some : goal.returns-in_ok-add_fact-in-Some
returns-in_ok-add_fact-in-Some c =
    let numbers = numbers_of c.args.look.census.now in
    pushed_same (IsFactOf numbers c.in-Some.name.now) (IsBaseFact numbers (seen c.args.spot)) c.args.into.now.items c.add_fact.new.into.items
    (λ f. base_some numbers (targets Base (seen c.args.spot)) c.in-Some.name.now f (c.in-Some.ensures c.args.spot.at)) c.in_ok-add_fact-in-Some.ensures
