use Rattle.std.specs.Prelude.{None, false}
use Rattle.run_status.specs.Ways.{Printed, PrintedFront, IsOnlyEnd}
use Rattle.stream_run.specs.Doing.{Setting}
use Rattle.drill_run.specs.Drilling.{DrillEnds}
use Rattle.drill_run.specs.Costs.{DrilledAfter}
use Rattle.drill_run.specs.Asking.{DrilledAsking}
use Rattle.scan_run.proofs.Settings.{is_new, of_setting}
use Rattle.scan_run.proofs.serving.run_drill.Goals as goal

pub drill-status-requires : goal.drill-status-requires
drill-status-requires g c = record { new = is_new 50000 _ c.new-session.ensures.new; unseen = c.new-session.ensures.unseen }

pub returns-clause-ends : goal.returns-clause-ends
returns-clause-ends g c a =
    of_setting None _ 50000 false _ _ c.new-session.ensures.new c.new-session.ensures.traced (λ (s : Setting). Printed (DrillEnds s c.args.count) (g.K.Sink.written c.args.out.now) (g.K.Sink.written c.drill-status.new.out) c.drill-status.result) (c.drill-status.ensures.ends a)

pub returns-clause-work : goal.returns-clause-work
returns-clause-work g c a =
    of_setting None _ 50000 false _ _ c.new-session.ensures.new c.new-session.ensures.traced (λ (s : Setting). DrilledAfter s c.args.count (g.K.Sink.written c.args.out.now) (g.K.Sink.written c.drill-status.new.out) c.drill-status.result c.args.steps.now c.drill-status.new.steps) (c.drill-status.ensures.work a)

pub returns-clause-asked : goal.returns-clause-asked
returns-clause-asked g c a =
    of_setting None _ 50000 false _ _ c.new-session.ensures.new c.new-session.ensures.traced (λ (s : Setting). DrilledAsking s c.args.count (g.K.Sink.written c.args.out.now) (g.K.Sink.written c.drill-status.new.out) c.drill-status.result (g.P.Patterns.asked c.args.patterns.now) (g.P.Patterns.asked c.drill-status.new.patterns)) (c.drill-status.ensures.asked a)

pub returns-clause-front_written : goal.returns-clause-front_written
returns-clause-front_written g c e =
    of_setting None _ 50000 false _ _ c.new-session.ensures.new c.new-session.ensures.traced (λ (s : Setting). PrintedFront (DrillEnds s c.args.count) (g.K.Sink.written c.args.out.now) (g.K.Sink.written c.drill-status.new.out)) (c.drill-status.ensures.front_written e)

pub returns-clause-only : goal.returns-clause-only
returns-clause-only g c a =
    of_setting None _ 50000 false _ _ c.new-session.ensures.new c.new-session.ensures.traced (λ (s : Setting). IsOnlyEnd (DrillEnds s c.args.count) (g.K.Sink.written c.args.out.now) (g.K.Sink.written c.drill-status.new.out) c.drill-status.result) (c.drill-status.ensures.only a)
