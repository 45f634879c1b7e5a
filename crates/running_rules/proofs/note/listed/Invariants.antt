use Rattle.std.proofs.Common.{◌≡◌, ◌++◌, length, reverse}
use Rattle.running_rules.proofs.note.listed.Given as goal

abbrev pub decreases-loop-noted : goal.decreases-loop-noted
decreases-loop-noted l = length l.notices.items

abbrev pub invariant-loop-noted : goal.invariant-loop-noted
invariant-loop-noted l = l.notices.items ++ reverse l.list ≡ l.fn.notices.items
