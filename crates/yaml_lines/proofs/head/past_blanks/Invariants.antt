use Rattle.std.proofs.Common.{◌≡◌, ◌≤◌, length}
use Rattle.std.specs.Str.{IsUtf8}
use Rattle.yaml_lines.specs.Blanks.{past_blanks}
use Rattle.yaml_lines.proofs.head.past_blanks.Given as goal

abbrev pub invariant-blanks : goal.invariant-blanks
invariant-blanks l = record {
  same : past_blanks l.initial.rest ≡ past_blanks l.rest;
  utf8 : IsUtf8 l.initial.rest → IsUtf8 l.rest;
  len : length l.rest ≤ length l.initial.rest;
}

abbrev pub decreases-blanks : goal.decreases-blanks
decreases-blanks l = length l.rest
