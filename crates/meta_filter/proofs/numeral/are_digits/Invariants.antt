use Rattle.std.proofs.Common.{◌≡◌, drop}
use Rattle.meta_filter.specs.Numerals.{are_digits}
use Rattle.meta_filter.proofs.numeral.are_digits.Given as goal

abbrev pub invariant-loop-byte : goal.invariant-loop-byte
invariant-loop-byte l = are_digits l.radix l.text ≡ are_digits l.radix (drop l.byte-index l.text)
