use Rattle.std.proofs.Common.{◌≡◌, drop}
use Rattle.rule_keys.specs.Extras.{texts_of}
use Rattle.rule_keys.proofs.Folds.{prefixed}
use Rattle.rule_keys.proofs.extra.texts.Given as goal

abbrev pub invariant-loop-item : goal.invariant-loop-item
invariant-loop-item l = texts_of l.items ≡ prefixed l.all (texts_of (drop l.item-index l.items))
