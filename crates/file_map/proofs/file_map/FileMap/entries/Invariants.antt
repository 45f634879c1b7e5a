use Rattle.std.proofs.Common.{◌≡◌, ◌++◌, map}
use Rattle.file_map.specs.Seen.{shown, lent}
use Rattle.file_map.proofs.file_map.FileMap.entries.Given as goal

abbrev pub invariant-loop-path : goal.invariant-loop-path
invariant-loop-path l = map lent l.files ++ map shown l.path-iterator ≡ l.self
