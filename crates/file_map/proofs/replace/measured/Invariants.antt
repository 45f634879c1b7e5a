use Rattle.std.proofs.Common.{◌≡◌, ◌+◌, map}
use Rattle.file_map.specs.FileMap.{all_bytes}
use Rattle.file_map.specs.Seen.{shown, files_of}
use Rattle.file_map.proofs.replace.measured.Given as goal

abbrev pub invariant-loop-bytes : goal.invariant-loop-bytes
invariant-loop-bytes l = l.all + all_bytes (map shown l.bytes-iterator) ≡ all_bytes (files_of l.by_path)
