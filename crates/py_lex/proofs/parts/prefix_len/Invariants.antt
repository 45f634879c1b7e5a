use Rattle.std.proofs.Common.{◌≡◌, ◌+◌, drop}
use Rattle.py_lex.specs.Parts.{prefix_len}
use Rattle.py_lex.proofs.parts.prefix_len.Given as goal

abbrev pub invariant-loop-b : goal.invariant-loop-b
invariant-loop-b l = record {
  value : prefix_len (drop l.b-index l.text) + l.len ≡ prefix_len l.text;
  bound : l.len ≡ l.b-index;
}
