use Rattle.std.proofs.Common.{◌≡◌, drop}
use Rattle.rule_keys.specs.Names.{all_go_on}
use Rattle.rule_keys.proofs.name.all_go_on.Given as goal

abbrev pub invariant-loop-byte : goal.invariant-loop-byte
invariant-loop-byte l = all_go_on l.bytes ≡ all_go_on (drop l.byte-index l.bytes)
