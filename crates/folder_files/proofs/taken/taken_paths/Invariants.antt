use Rattle.std.proofs.Common.{take}
use Rattle.folder_files.specs.Folder.{AreTaken}
use Rattle.folder_files.proofs.taken.taken_paths.Given as goal

abbrev pub invariant-loop-path : goal.invariant-loop-path
invariant-loop-path l = AreTaken (take l.path-index l.path-items) l.taken
