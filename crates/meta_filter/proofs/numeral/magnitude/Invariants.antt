use Rattle.std.proofs.Common.{◌≡◌, ◌<◌, ◌^◌, drop}
use Rattle.std.specs.Str.Parse.{digits_value_after}
use Rattle.meta_filter.specs.Numerals.{digits_of, magnitude}
use Rattle.meta_filter.proofs.numeral.magnitude.Given as goal

abbrev pub invariant-loop-byte : goal.invariant-loop-byte
invariant-loop-byte l = record {
  fits : l.value < 2 ^ 128;
  left : magnitude l.radix l.text ≡ digits_value_after l.radix l.value (digits_of (drop l.byte-index l.text));
}
