use Rattle.std.proofs.Common.{◌≡◌, take, map}
use Rattle.file_map.specs.FileMap.{front}
use Rattle.file_map.specs.Seen.{files_of}
use Rattle.file_map.specs.Sync.{with_files}
use Rattle.file_map.proofs.replace.put_fronts.Given as goal

abbrev pub invariant-loop-path : goal.invariant-loop-path
invariant-loop-path l = files_of l.by_path ≡ with_files (files_of l.initial.by_path) (map front (take l.path-index l.files))
