use Rattle.std.proofs.Common.{◌≡◌, ◌++◌, false, length}
use Rattle.std.specs.Prelude.{string_bytes, encode_utf8_all}
use Rattle.std.specs.Str.{chars, IsUtf8}
use Rattle.yaml_lines.specs.Escape.{undoubled_at}
use Rattle.yaml_lines.proofs.escape.undoubled.Given as goal

abbrev pub invariant-chars : goal.invariant-chars
invariant-chars l = record {
  utf8 : IsUtf8 l.rest;
  content : encode_utf8_all (undoubled_at false (chars l.initial.rest)) ≡ string_bytes l.content ++ encode_utf8_all (undoubled_at l.second (chars l.rest));
}

abbrev pub decreases-chars : goal.decreases-chars
decreases-chars l = length (chars l.rest)
