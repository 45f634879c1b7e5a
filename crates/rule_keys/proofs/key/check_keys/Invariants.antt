use Rattle.std.proofs.Common.{◌≡◌, drop}
use Rattle.rule_keys.specs.Keys.{check_keys}
use Rattle.rule_keys.proofs.key.check_keys.Given as goal

abbrev pub invariant-loop-entry : goal.invariant-loop-entry
invariant-loop-entry l = check_keys l.role l.entries ≡ check_keys l.role (drop l.entry-index l.entries)
