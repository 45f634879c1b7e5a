use Rattle.std.proofs.Common.{◌≡◌, suc, length, ◌≤◌, ◌-◌}
use Rattle.py_suite.specs.Table as rows
use Rattle.py_suite.specs.Table.{DottedTail, looped}
use Rattle.py_suite.specs.reader.Reading as reading
use Rattle.py_suite.proofs.Rounds.{rest}
use Rattle.py_suite.proofs.imports.pointed.Given as goal

abbrev pub invariant-loop-turn : goal.invariant-loop-turn
invariant-loop-turn l = record {
  within : l.end ≤ length l.items;
  turns : l.turn ≤ suc (length l.items);
  rest : reading.pointed_behind l.fn.text (reading.further_parts l.items l.fn.room l.fn.at) ≡ reading.pointed_behind l.text (rest l.items l.fn.room DottedTail (looped rows.further_part) (suc (length l.items) - l.turn) l.end);
}
