use Rattle.std.proofs.Common.{◌≡◌, suc, length, ◌≤◌, ◌-◌}
use Rattle.py_expr.specs.Table.{commas}
use Rattle.py_suite.specs.Table as rows
use Rattle.py_suite.specs.Table.{MoreAliasesTail, Alias}
use Rattle.py_suite.specs.reader.Reading as reading
use Rattle.py_suite.proofs.Rounds.{rest}
use Rattle.py_suite.proofs.imports.more_aliases.Given as goal

abbrev pub invariant-loop-turn : goal.invariant-loop-turn
invariant-loop-turn l = record {
  within : l.end ≤ length l.items;
  turns : l.turn ≤ suc (length l.items);
  rest : reading.along l.fn.kids (reading.more_aliases l.items l.fn.room l.fn.at) ≡ reading.along l.kids (rest l.items l.fn.room MoreAliasesTail (rows.parted commas Alias) (suc (length l.items) - l.turn) l.end);
}
