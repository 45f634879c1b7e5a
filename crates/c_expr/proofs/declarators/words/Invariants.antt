use Rattle.std.proofs.Common.{◌≡◌, ◌≤◌, ◌-◌, [], suc, length}
use Rattle.c_expr.specs.Table.{Words}
use Rattle.c_expr.specs.reader.Reading.{level, gathering}
use Rattle.c_expr.proofs.Steps.{rest}
use Rattle.c_expr.proofs.declarators.words.Given as goal

abbrev pub invariant-loop-turn : goal.invariant-loop-turn
invariant-loop-turn l = record {
  within : l.end ≤ length l.tokens;
  turns : l.turn ≤ suc (length l.tokens);
  alone : l.spelt.kids.items ≡ [];
  rest : gathering ([], []) (level l.fn.tokens l.fn.room Words l.fn.at) ≡ gathering (l.spelt.text, l.spelt.kids.items) (rest l.fn.tokens l.fn.room Words (suc (length l.fn.tokens) - l.turn) l.end);
}
