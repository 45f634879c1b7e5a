use Rattle.std.proofs.Common.{◌≡◌, drop}
use Rattle.rule_keys.specs.Heads.{are_texts}
use Rattle.rule_keys.proofs.head.are_texts.Given as goal

abbrev pub invariant-loop-item : goal.invariant-loop-item
invariant-loop-item l = are_texts l.items ≡ are_texts (drop l.item-index l.items)
