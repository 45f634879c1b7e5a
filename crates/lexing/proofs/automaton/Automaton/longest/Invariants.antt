use Rattle.std.proofs.Common.{◌≡◌, ◌≤◌, length, ◌+◌, drop, take}
use Rattle.std.specs.Prelude.{encode_utf8_all}
use Rattle.std.specs.Str.{chars}
use Rattle.lexing.proofs.Scanning.{scan}
use Rattle.lexing.specs.View.{started}
use Rattle.lexing.proofs.automaton.Automaton.longest.Given as goal

abbrev pub invariant-loop-c : goal.invariant-loop-c
invariant-loop-c l = record {
  row : l.state + l.self-inside.width ≤ length l.self-inside.rows.now;
  len : l.len ≡ length (encode_utf8_all (take (length l.yielded) (chars l.text)));
  read : scan (started l.self-inside).table l.state l.len l.best (drop (length l.yielded) (chars l.text)) ≡ scan (started l.self-inside).table l.self-inside.start 0 (record { word = 0; len = 0 }) (chars l.text);
}
