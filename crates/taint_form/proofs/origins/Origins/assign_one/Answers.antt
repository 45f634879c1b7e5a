use Rattle.taint_form.specs.Origins.{Comes}
use Rattle.taint_form.proofs.Maps.{after_one}
use Rattle.taint_form.proofs.origins.Origins.assign_one.Goals as goal

pub returns-clause-after : goal.returns-clause-after
returns-clause-after c =
    after_one c.args.value.now (Comes c.args.self.now) (Comes c.touch.new.self) c.args.aim c.in_ok-origins.origins.items c.in_ok-origins.ensures c.in_ok-touch.ensures.here c.in_ok-touch.ensures.others
