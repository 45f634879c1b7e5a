use Rattle.std.proofs.Common.{Err, ap}
use Rattle.stream_run.proofs.Costs.{scan_costs}
use Rattle.stream_run.proofs.Scans.{scan_does, scan_many_does}
use Rattle.stream_run.proofs.doing.scan.Goals as goal

pub returns-in-Ok-clause-does : goal.returns-in-Ok-clause-does
returns-in-Ok-clause-does g c =
    λ told. scan_does (g.W.Workspace.readings (g.W.Workspace.reader c.args.workspace.now)) (g.W.Workspace.state c.args.workspace.now) (g.W.Workspace.state c.scan.new.self) c.scan.ensures.same (c.in-Ok.ensures.all_decided (λ e. cc)) told c.in-Ok.report c.in-Ok.ensures.report c.in-Ok.ensures.few

pub returns-in-Err-TooMany-clause-does : goal.returns-in-Err-TooMany-clause-does
returns-in-Err-TooMany-clause-does g c =
    let many = c.in-Err-TooMany.ensures.too_many c.in-Err-TooMany.most (ap Err c.in-Err-TooMany.field-0-is) in
    let is = c.in-Err-TooMany.field-0-is in
    λ told. scan_many_does (g.W.Workspace.readings (g.W.Workspace.reader c.args.workspace.now)) (g.W.Workspace.state c.args.workspace.now) (g.W.Workspace.state c.scan.new.self) c.scan.ensures.same (c.in-Err-TooMany.ensures.all_decided (λ e. cc)) told c.in-Err-TooMany.most many.0 many.1

pub returns-in-Ok-clause-work : goal.returns-in-Ok-clause-work
returns-in-Ok-clause-work g c _ =
    scan_costs (g.W.Workspace.readings (g.W.Workspace.reader c.args.workspace.now)) (g.W.Workspace.state c.args.workspace.now) (g.W.Workspace.state c.scan.new.self) (g.W.Workspace.seen c.args.workspace.now) (g.W.Workspace.seen c.scan.new.self) c.args.steps.now c.scan.new.steps (c.in-Ok.ensures.all_decided (λ e. cc)) (c.in-Ok.ensures.work (λ e. cc))

pub returns-in-Err-TooMany-clause-work : goal.returns-in-Err-TooMany-clause-work
returns-in-Err-TooMany-clause-work g c _ =
    let is = c.in-Err-TooMany.field-0-is in
    scan_costs (g.W.Workspace.readings (g.W.Workspace.reader c.args.workspace.now)) (g.W.Workspace.state c.args.workspace.now) (g.W.Workspace.state c.scan.new.self) (g.W.Workspace.seen c.args.workspace.now) (g.W.Workspace.seen c.scan.new.self) c.args.steps.now c.scan.new.steps (c.in-Err-TooMany.ensures.all_decided (λ e. cc)) (c.in-Err-TooMany.ensures.work (λ e. cc))
