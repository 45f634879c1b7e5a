use Rattle.std.proofs.Common.{◌≡◌, ◌≤◌, false}
use Rattle.scan_world.specs.Trees.{KeepsFiles}
use Rattle.stream_run.proofs.Turns.{PlaysTo}
use Rattle.stream_run.proofs.serving.serve.Given as goal

abbrev pub invariant-loop : goal.invariant-loop
invariant-loop g l = record {
  plays : PlaysTo (g.W.Workspace.readings (g.W.Workspace.reader l.initial.workspace)) (g.T.Tree.files l.initial.tree) (g.W.Workspace.state l.initial.workspace).most (g.S.Source.left l.initial.input)
      (g.P.Patterns.refusals l.initial.patterns) (g.P.Patterns.asked l.initial.patterns) (g.K.Sink.written l.initial.out) l.initial.steps (g.W.Workspace.state l.workspace) (g.W.Workspace.seen l.workspace) l.steps (g.P.Patterns.refusals l.patterns) (g.P.Patterns.asked l.patterns) (g.K.Sink.written l.out) l.feed (g.S.Source.left l.input);
  going : l.feed.failed ≡ false;
  counted : l.counter ≤ l.feed.place;
  within : l.feed.place ≤ 268435456;
  same_reader : g.W.Workspace.reader l.workspace ≡ g.W.Workspace.reader l.initial.workspace;
  kept : KeepsFiles (g.T.Tree.files l.initial.tree) (g.T.Tree.files l.tree);
  source : g.S.Source.faults l.input ≡ g.S.Source.faults l.initial.input;
  sink : g.K.Sink.faults l.out ≡ g.K.Sink.faults l.initial.out;
  tree : g.T.Tree.faults l.tree ≡ g.T.Tree.faults l.initial.tree;
}
