use Rattle.std.proofs.Common.{List, ◌++◌, map}
use Rattle.file_map.specs.FileMap.{File}
use Rattle.file_map.specs.Seen.{shown, lent}
use Rattle.file_map.specs.Sync.{AreOutside}
use Rattle.file_map.proofs.file_map.FileMap.outside.Given as goal

abbrev pub invariant-loop-path : goal.invariant-loop-path
invariant-loop-path l = (rest : List File) → AreOutside l.prefix (map shown l.path-iterator) rest → AreOutside l.prefix l.self (map lent l.files ++ rest)
