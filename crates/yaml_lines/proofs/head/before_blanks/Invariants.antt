use Rattle.std.proofs.Common.{◌≡◌, length}
use Rattle.std.specs.Str.{IsUtf8}
use Rattle.yaml_lines.specs.Blanks.{before_blanks}
use Rattle.yaml_lines.proofs.head.before_blanks.Given as goal

abbrev pub invariant-blanks : goal.invariant-blanks
invariant-blanks l = record {
  same : before_blanks l.initial.rest ≡ before_blanks l.rest;
  utf8 : IsUtf8 l.initial.rest → IsUtf8 l.rest;
}

abbrev pub decreases-blanks : goal.decreases-blanks
decreases-blanks l = length l.rest
