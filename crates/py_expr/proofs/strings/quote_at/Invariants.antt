use Rattle.std.proofs.Common.{◌≡◌, ◌+◌, drop}
use Rattle.py_expr.specs.Strings.{quote_at}
use Rattle.py_expr.proofs.strings.quote_at.Given as goal

abbrev pub invariant-loop-byte : goal.invariant-loop-byte
invariant-loop-byte l = record {
  at : l.at ≡ l.byte-index;
  rest : quote_at l.bytes ≡ l.at + quote_at (drop l.byte-index l.bytes);
}
