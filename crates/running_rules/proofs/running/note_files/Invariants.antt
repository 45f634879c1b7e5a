use Rattle.std.proofs.Common.{◌≡◌, ◌++◌, drop}
use Rattle.std.specs.List.{flat_map}
use Rattle.running_rules.specs.Running.{file_notices}
use Rattle.running_rules.proofs.running.note_files.Given as goal

abbrev pub invariant-loop-file : goal.invariant-loop-file
invariant-loop-file l = l.notices.items ++ flat_map file_notices (drop l.file-index l.files) ≡ l.fn.notices.items ++ flat_map file_notices l.files
