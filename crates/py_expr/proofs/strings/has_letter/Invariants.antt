use Rattle.std.proofs.Common.{◌≡◌, drop}
use Rattle.py_expr.specs.Strings.{has_letter}
use Rattle.py_expr.proofs.strings.has_letter.Given as goal

abbrev pub invariant-loop-byte : goal.invariant-loop-byte
invariant-loop-byte l = has_letter l.small l.capital (drop l.byte-index l.bytes) ≡ has_letter l.small l.capital l.bytes
