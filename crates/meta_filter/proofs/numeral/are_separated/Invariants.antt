use Rattle.std.proofs.Common.{◌≡◌, drop, false}
use Rattle.meta_filter.specs.Numerals.{are_separated}
use Rattle.meta_filter.proofs.numeral.are_separated.Given as goal

abbrev pub invariant-loop-byte : goal.invariant-loop-byte
invariant-loop-byte l = are_separated false l.text ≡ are_separated l.behind (drop l.byte-index l.text)
