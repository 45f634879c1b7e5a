use Rattle.assignments.specs.Seen.{seen_target}
use Rattle.taint_tables.specs.Numbers.{numbers_of}
use Rattle.taint_tables.specs.Taints.{IsFactOf}
use Rattle.taint_tables.proofs.FactLists.{told_some, told_none}
use Rattle.taint_plan.proofs.RowLists.{aim_pushed, aim_none}
use Rattle.taint_plan.proofs.rows.add_aim.Goals as goal

pub returns-in-None : goal.returns-in-None
returns-in-None c =
    let numbers = numbers_of c.args.look.census.now in
    aim_none numbers c.args.manner (seen_target c.args.target.now) c.args.aims.now.items (told_none (IsFactOf numbers c.args.target.now.name.now) _ c.in_ok-fact.ensures c.in-None.is)

pub returns-in_ok-push-in-Some : goal.returns-in_ok-push-in-Some
returns-in_ok-push-in-Some c =
    let numbers = numbers_of c.args.look.census.now in
    aim_pushed numbers c.args.manner (seen_target c.args.target.now) c.args.aims.now.items c.push.new.self.items c.in-Some.fact c.is_renewed-renewed.result (told_some (IsFactOf numbers c.args.target.now.name.now) _ c.in-Some.fact c.in_ok-fact.ensures c.in-Some.is) c.is_renewed-renewed.ensures c.in_ok-push-in-Some.ensures.items
