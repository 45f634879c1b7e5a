use Rattle.std.proofs.Common.{◌≡◌, take, map}
use Rattle.file_map.specs.Seen.{lent}
use Rattle.workspace.specs.Fixes.{AreFixed}
use Rattle.session.proofs.fixing.fixed_files.Given as goal

abbrev pub invariant-loop-path : goal.invariant-loop-path
invariant-loop-path l = AreFixed l.results (map lent (take l.path-index l.path-items)) l.fixed
