use Rattle.std.proofs.Common.{◌≡◌, ◌++◌, drop}
use Rattle.rule_keys.specs.Extras.{unread}
use Rattle.rule_keys.proofs.extra.unread.Given as goal

abbrev pub invariant-loop-option : goal.invariant-loop-option
invariant-loop-option l = unread l.options ≡ l.all ++ unread (drop l.option-index l.options)
