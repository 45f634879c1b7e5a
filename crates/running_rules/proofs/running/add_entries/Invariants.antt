use Rattle.std.proofs.Common.{◌≡◌, ◌++◌, map, drop}
use Rattle.running_rules.specs.Running.{stated_from}
use Rattle.running_rules.specs.Taking.{said}
use Rattle.running_rules.proofs.running.add_entries.Given as goal

abbrev pub invariant-loop-number : goal.invariant-loop-number
invariant-loop-number l = map said l.entries.items ++ stated_from l.file l.number (drop l.number l.outcomes) ≡ map said l.fn.entries.items ++ stated_from l.file 0 l.outcomes
