use Rattle.std.proofs.Common.{◌≡◌, drop}
use Rattle.rule_keys.specs.Values.{look}
use Rattle.rule_keys.proofs.value.look.Given as goal

abbrev pub invariant-loop-entry : goal.invariant-loop-entry
invariant-loop-entry l = look l.key l.entries ≡ look l.key (drop l.entry-index l.entries)
