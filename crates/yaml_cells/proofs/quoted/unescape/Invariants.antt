use Rattle.std.proofs.Common.{◌≡◌, ◌++◌, length}
use Rattle.std.specs.Prelude.{string_bytes}
use Rattle.std.specs.Option.{option_map}
use Rattle.std.specs.Str.{chars, IsUtf8}
use Rattle.yaml_cells.specs.Quoted.{Unescaped, unescaped, encoded}
use Rattle.yaml_lines.specs.declared.escape.Reading.TheVariants.{Plain}
use Rattle.yaml_cells.proofs.quoted.unescape.Given as goal

abbrev pub invariant-chars : goal.invariant-chars
invariant-chars l = record {
  utf8 : IsUtf8 l.rest;
  content : option_map encoded (unescaped Plain (chars l.initial.rest))
      ≡ option_map (λ (u : Unescaped). (string_bytes l.content ++ u.0, u.1)) (option_map encoded (unescaped l.reading (chars l.rest)));
}

abbrev pub decreases-chars : goal.decreases-chars
decreases-chars l = length (chars l.rest)
