use Rattle.std.proofs.Common.{◌≡◌, take}
use Rattle.scan_world.specs.Trees.{KeepsFiles}
use Rattle.file_map.specs.Sync.{PutsRead}
use Rattle.file_map.proofs.file_map.FileMap.put_read.Given as goal

abbrev pub invariant-loop-path : goal.invariant-loop-path
invariant-loop-path g l = record {
  far : PutsRead (g.T.Tree.files l.initial.tree) (take l.path-index l.path-items) l.initial.self l.self;
  kept : KeepsFiles (g.T.Tree.files l.initial.tree) (g.T.Tree.files l.tree);
  faults : g.T.Tree.faults l.tree ≡ g.T.Tree.faults l.initial.tree;
}
