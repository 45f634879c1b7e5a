use Rattle.std.proofs.Common.{◌≡◌, ◌++◌, length}
use Rattle.std.specs.Prelude.{string_bytes, encode_utf8_all}
use Rattle.std.specs.Option.{option_map}
use Rattle.std.specs.Str.{chars, IsUtf8}
use Rattle.yaml_lines.specs.Escape.{unescaped_at}
use Rattle.yaml_lines.specs.declared.escape.Reading.TheVariants.{Plain}
use Rattle.yaml_lines.proofs.escape.unescaped.Given as goal

abbrev pub invariant-chars : goal.invariant-chars
invariant-chars l = record {
  utf8 : IsUtf8 l.rest;
  content : option_map encode_utf8_all (unescaped_at Plain (chars l.initial.rest))
      ≡ option_map (λ bs. string_bytes l.content ++ bs) (option_map encode_utf8_all (unescaped_at l.reading (chars l.rest)));
}

abbrev pub decreases-chars : goal.decreases-chars
decreases-chars l = length (chars l.rest)
