use Rattle.std.proofs.Common.{◌≡◌, ◌++◌, map, drop}
use Rattle.running_rules.specs.Running.{stated}
use Rattle.running_rules.specs.Taking.{said}
use Rattle.running_rules.proofs.running.good_rules.Given as goal

abbrev pub invariant-loop-file : goal.invariant-loop-file
invariant-loop-file l = map said l.entries.items ++ stated (drop l.file-index l.files) ≡ stated l.files
