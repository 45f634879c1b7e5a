use Rattle.std.proofs.Common.{◌≡◌, drop}
use Rattle.rule_keys.specs.Heads.{langs_from}
use Rattle.rule_keys.proofs.Folds.{prefixed}
use Rattle.rule_keys.proofs.head.each_lang.Given as goal

abbrev pub invariant-loop-place : goal.invariant-loop-place
invariant-loop-place l = langs_from 0 l.items ≡ prefixed l.all (langs_from l.place (drop l.place l.items))
