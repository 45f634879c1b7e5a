use Rattle.drill_run.proofs.Anyhow.{next, stops_after, stops_anyhow}
use Rattle.drill_run.proofs.commands.do_one.Goals as goal

pub returns-in-Ok-clause-does : goal.returns-in-Ok-clause-does
returns-in-Ok-clause-does g c =
    next (g.W.Workspace.readings (g.W.Workspace.reader c.args.workspace.now)) (g.T.Tree.files c.args.tree.now) (g.W.Workspace.state c.args.workspace.now) c.args.wire.now (g.W.Workspace.state c.play.new.workspace) c.in-Ok.reply c.in-Ok.ensures.does c.add_report.result c.args.reports.now c.add_report.new.reports c.add_report.ensures.added c.add_report.ensures.within

pub returns-in-Ok-clause-stops : goal.returns-in-Ok-clause-stops
returns-in-Ok-clause-stops g c =
    stops_after (g.W.Workspace.readings (g.W.Workspace.reader c.args.workspace.now)) (g.T.Tree.files c.args.tree.now) (g.W.Workspace.state c.args.workspace.now) c.args.wire.now (g.W.Workspace.state c.play.new.workspace) c.in-Ok.reply c.in-Ok.ensures.does c.add_report.result c.add_report.ensures.ends

pub returns-in-Err-clause-stops : goal.returns-in-Err-clause-stops
returns-in-Err-clause-stops g c =
    stops_anyhow (g.W.Workspace.readings (g.W.Workspace.reader c.args.workspace.now)) (g.T.Tree.files c.args.tree.now) (g.W.Workspace.state c.args.workspace.now) c.args.wire.now (g.W.Workspace.state c.play.new.workspace) c.in-Err.fault c.status.result c.status.ensures c.in-Err.ensures.passes
