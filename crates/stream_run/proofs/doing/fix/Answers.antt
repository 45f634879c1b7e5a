use Rattle.std.proofs.Common.{Err, ap}
use Rattle.stream_run.proofs.Costs.{fix_costs}
use Rattle.stream_run.proofs.Scans.{unfixed, fix_does, fix_many_does, fix_passes}
use Rattle.stream_run.proofs.doing.fix.Goals as goal

pub returns-in-Ok-clause-does : goal.returns-in-Ok-clause-does
returns-in-Ok-clause-does g c =
    λ told. fix_does (g.W.Workspace.readings (g.W.Workspace.reader c.args.workspace.now)) (g.W.Workspace.state c.args.workspace.now) (g.W.Workspace.state c.fix.new.self) c.fix.ensures.same (c.in-Ok.ensures.all_decided (λ e. cc)) told c.in-Ok.fixed c.in-Ok.ensures.report c.in-Ok.ensures.few c.in-Ok.ensures.put c.in-Ok.ensures.within

pub returns-in-Err-TooMany-clause-does : goal.returns-in-Err-TooMany-clause-does
returns-in-Err-TooMany-clause-does g c =
    let many = c.in-Err-TooMany.ensures.too_many c.in-Err-TooMany.most (ap Err c.in-Err-TooMany.field-0-is) in
    let is = c.in-Err-TooMany.field-0-is in
    let same = unfixed (g.W.Workspace.readings (g.W.Workspace.reader c.args.workspace.now)) (g.W.Workspace.state c.args.workspace.now) (g.W.Workspace.state c.fix.new.self) c.fix.ensures.same c.in-Err-TooMany.ensures.refused_fix in
    λ told. fix_many_does (g.W.Workspace.readings (g.W.Workspace.reader c.args.workspace.now)) (g.W.Workspace.state c.args.workspace.now) (g.W.Workspace.state c.fix.new.self) same (c.in-Err-TooMany.ensures.all_decided (λ e. cc)) told c.in-Err-TooMany.most many.0 many.1

pub returns-in-Err-OverLimit-clause-passes : goal.returns-in-Err-OverLimit-clause-passes
returns-in-Err-OverLimit-clause-passes g c =
    fix_passes (g.W.Workspace.readings (g.W.Workspace.reader c.args.workspace.now)) (g.W.Workspace.state c.args.workspace.now) (g.W.Workspace.state c.fix.new.self) c.in-Err-OverLimit.kind c.in-Err-OverLimit.number (c.in-Err-OverLimit.ensures.over c.in-Err-OverLimit.kind c.in-Err-OverLimit.number (ap Err c.in-Err-OverLimit.field-0-is))

pub returns-in-Ok-clause-work : goal.returns-in-Ok-clause-work
returns-in-Ok-clause-work g c _ =
    fix_costs (g.W.Workspace.readings (g.W.Workspace.reader c.args.workspace.now)) (g.W.Workspace.state c.args.workspace.now) (g.W.Workspace.state c.fix.new.self) (g.W.Workspace.seen c.args.workspace.now) (g.W.Workspace.seen c.fix.new.self) c.args.steps.now c.fix.new.steps (c.in-Ok.ensures.all_decided (λ e. cc)) (c.in-Ok.ensures.work (λ e. cc))

pub returns-in-Err-TooMany-clause-work : goal.returns-in-Err-TooMany-clause-work
returns-in-Err-TooMany-clause-work g c _ =
    let is = c.in-Err-TooMany.field-0-is in
    fix_costs (g.W.Workspace.readings (g.W.Workspace.reader c.args.workspace.now)) (g.W.Workspace.state c.args.workspace.now) (g.W.Workspace.state c.fix.new.self) (g.W.Workspace.seen c.args.workspace.now) (g.W.Workspace.seen c.fix.new.self) c.args.steps.now c.fix.new.steps (c.in-Err-TooMany.ensures.all_decided (λ e. cc)) (c.in-Err-TooMany.ensures.work (λ e. cc))

pub returns-in-Err-OverLimit-clause-work : goal.returns-in-Err-OverLimit-clause-work
returns-in-Err-OverLimit-clause-work g c _ =
    let is = c.in-Err-OverLimit.field-0-is in
    fix_costs (g.W.Workspace.readings (g.W.Workspace.reader c.args.workspace.now)) (g.W.Workspace.state c.args.workspace.now) (g.W.Workspace.state c.fix.new.self) (g.W.Workspace.seen c.args.workspace.now) (g.W.Workspace.seen c.fix.new.self) c.args.steps.now c.fix.new.steps (c.in-Err-OverLimit.ensures.all_decided (λ e. cc)) (c.in-Err-OverLimit.ensures.work (λ e. cc))
