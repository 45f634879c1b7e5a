use Rattle.std.proofs.Common.{map, drop}
use Rattle.running_rules.specs.Taking.{said}
use Rattle.running_rules.proofs.Taking.{TakesUp}
use Rattle.running_rules.proofs.running.take_rules.Given as goal

abbrev pub invariant-loop-entry : goal.invariant-loop-entry
invariant-loop-entry l = TakesUp l.decided (map said l.entries) l.fn.notices.items l.taken l.running.items l.notices.items (map said (drop l.entry-index l.entries))
