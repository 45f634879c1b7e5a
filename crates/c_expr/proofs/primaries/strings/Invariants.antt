use Rattle.std.proofs.Common.{◌≡◌, ◌<◌, ◌≤◌, ◌-◌, ◌++◌, [], ◌∷◌, length, Some}
use Rattle.grammar.specs.Reader.{◌>>=◌}
use Rattle.c_expr.specs.Table.{Strings, StringsTail}
use Rattle.c_expr.specs.Build.{span_between, cut_joined}
use Rattle.c_expr.specs.reader.Reading.{level}
use Rattle.c_expr.proofs.Steps.{rest}
use Rattle.c_expr.proofs.primaries.strings.Given as goal

abbrev pub invariant-loop-turn : goal.invariant-loop-turn
invariant-loop-turn l = record {
  within : l.end ≤ length l.tokens;
  turns : l.turn ≤ length l.tokens;
  several : 1 < length l.parts.items;
  rest : level l.fn.tokens l.fn.room Strings l.fn.at ≡ (rest l.fn.tokens l.fn.room StringsTail (length l.fn.tokens - l.turn) l.end >>= λ y. Some (cut_joined (span_between l.fn.tokens l.fn.at y.1) (l.parts.items ++ y.0) ∷ [], y.1));
}
