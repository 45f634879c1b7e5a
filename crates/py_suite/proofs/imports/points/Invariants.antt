use Rattle.std.proofs.Common.{◌≡◌, suc, length, ◌≤◌, ◌-◌}
use Rattle.grammar.specs.Rule.{word}
use Rattle.py_expr.specs.Table.{Operator}
use Rattle.py_suite.specs.Table as rows
use Rattle.py_suite.specs.Table.{DotsTail, looped}
use Rattle.py_suite.specs.reader.Reading as reading
use Rattle.py_suite.proofs.Rounds.{rest}
use Rattle.py_suite.proofs.imports.points.Given as goal

abbrev pub invariant-loop-turn : goal.invariant-loop-turn
invariant-loop-turn l = record {
  within : l.end ≤ length l.items;
  turns : l.turn ≤ suc (length l.items);
  rest : reading.behind l.fn.text (reading.further_points l.items l.fn.room l.fn.at) ≡ reading.behind l.text (rest l.items l.fn.room DotsTail (looped (word Operator rows.points)) (suc (length l.items) - l.turn) l.end);
}
