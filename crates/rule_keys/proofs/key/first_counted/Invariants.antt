use Rattle.std.proofs.Common.{◌≡◌, length}
use Rattle.rule_keys.specs.Keys.{all_counted}
use Rattle.rule_keys.proofs.key.first_counted.Given as goal

abbrev pub invariant-loop-entry : goal.invariant-loop-entry
invariant-loop-entry l = all_counted l.role l.entries ≡ all_counted l.role l.left

abbrev pub decreases-loop-entry : goal.decreases-loop-entry
decreases-loop-entry l = length l.left
