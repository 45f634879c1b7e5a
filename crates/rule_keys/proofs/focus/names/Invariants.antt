use Rattle.std.proofs.Common.{◌≡◌, drop}
use Rattle.rule_keys.specs.Focus.{names_from}
use Rattle.rule_keys.proofs.Folds.{prefixed}
use Rattle.rule_keys.proofs.focus.names.Given as goal

abbrev pub invariant-loop-place : goal.invariant-loop-place
invariant-loop-place l = names_from 0 l.items ≡ prefixed l.all (names_from l.place (drop l.place l.items))
