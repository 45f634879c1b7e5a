use Rattle.std.proofs.Common.{◌≡◌, take}
use Rattle.folder_run.specs.Written.{WritesAll}
use Rattle.folder_run.proofs.writing.write_all.Given as goal

abbrev pub invariant-loop-file : goal.invariant-loop-file
invariant-loop-file g l = record {
  written : WritesAll (g.T.Tree.files l.initial.tree) (g.T.Tree.files l.tree) (take l.file-index l.files);
  faults : g.T.Tree.faults l.tree ≡ g.T.Tree.faults l.initial.tree;
}
