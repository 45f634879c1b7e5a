use Rattle.held_values.proofs.Concerns.{placed_set, placed_copy}
use Rattle.held_values.proofs.index.list_place.Goals as goal

pub returns-in_ok-push-2 : goal.returns-in_ok-push-2
returns-in_ok-push-2 c name at = placed_copy c.args.pairs.now.items c.push.new.self.items c.push-in-Copies.new.self.items c.args.assign c.args.place c.in-Copies.other name at c.in_ok-push.ensures.items c.in_ok-push-2.ensures.items c.in-Copies.is

pub returns-in_default : goal.returns-in_default
returns-in_default c name at = placed_set c.args.pairs.now.items c.push.new.self.items c.args.assign c.args.place name at c.in_ok-push.ensures.items (c.in_default.not-Copies name)
