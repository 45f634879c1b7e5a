use Rattle.std.proofs.Common.{◌≡◌, drop}
use Rattle.scan_world.specs.Files.{file_at}
use Rattle.scan_world.proofs.memory_tree.find.Given as goal

abbrev pub invariant-loop-name : goal.invariant-loop-name
invariant-loop-name l = file_at l.path l.files ≡ file_at l.path (drop l.name-index l.files)
