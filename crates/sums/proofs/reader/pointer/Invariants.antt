use Rattle.std.proofs.Common.{◌≡◌, suc, length, ◌≤◌, ◌-◌, ◌++◌, Some}
use Rattle.sums.specs.Tree.{views}
use Rattle.sums.specs.Table.{Pointer}
use Rattle.sums.specs.Reading.{level}
use Rattle.grammar.specs.Reader.{◌>>=◌}
use Rattle.sums.proofs.Steps.{pointer_rest}
use Rattle.sums.proofs.reader.pointer.Given as goal

abbrev pub invariant-loop-turn : goal.invariant-loop-turn
invariant-loop-turn l = record {
  within : l.end ≤ length l.tokens;
  turns : l.turn ≤ suc (length l.tokens);
  rest : level l.fn.tokens l.fn.room Pointer l.fn.at ≡ (pointer_rest l.fn.tokens l.fn.room (suc (length l.fn.tokens) - l.turn) l.end >>= λ y. Some (views l.kids.items ++ y.0, y.1));
}
