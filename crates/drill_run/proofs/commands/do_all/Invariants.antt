use Rattle.std.proofs.Common.{◌≡◌, drop}
use Rattle.scan_world.specs.Trees.{KeepsFiles}
use Rattle.drill_run.proofs.Far.{IsDrilling}
use Rattle.drill_run.proofs.commands.do_all.Given as goal

abbrev pub invariant-loop-wire : goal.invariant-loop-wire
invariant-loop-wire g l = record {
  far : IsDrilling (g.W.Workspace.readings (g.W.Workspace.reader l.initial.workspace)) (g.W.Workspace.state l.initial.workspace).most (g.P.Patterns.refusals l.initial.patterns) (g.P.Patterns.asked l.initial.patterns) l.count l.initial.steps (g.W.Workspace.state l.workspace) (g.W.Workspace.seen l.workspace) l.steps (g.P.Patterns.refusals l.patterns) (g.P.Patterns.asked l.patterns) (drop l.wire-index l.wire-items) l.reports;
  same_reader : g.W.Workspace.reader l.workspace ≡ g.W.Workspace.reader l.initial.workspace;
  kept : KeepsFiles (g.T.Tree.files l.initial.tree) (g.T.Tree.files l.tree);
  faults : g.T.Tree.faults l.tree ≡ g.T.Tree.faults l.initial.tree;
}
