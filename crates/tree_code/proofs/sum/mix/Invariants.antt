use Rattle.std.proofs.Common.{◌≡◌, ◌<◌, drop}
use Rattle.tree_code.specs.Sums.{mixed}
use Rattle.tree_code.proofs.sum.mix.Given as goal

abbrev pub invariant-loop-byte : goal.invariant-loop-byte
invariant-loop-byte l = record { within : l.sum < 65536; mixed : mixed l.sum (drop l.byte-index l.text) ≡ mixed l.begin l.text }
