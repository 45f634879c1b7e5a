use Rattle.std.proofs.Common.{◌≡◌, suc, length, ◌≤◌, ◌-◌}
use Rattle.py_suite.specs.Table.{looped}
use Rattle.py_suite.specs.reader.Reading as reading
use Rattle.py_suite.proofs.Rounds.{rest}
use Rattle.py_suite.proofs.series.further.Given as goal

abbrev pub invariant-loop-turn : goal.invariant-loop-turn
invariant-loop-turn l = record {
  within : l.end ≤ length l.items;
  turns : l.turn ≤ suc (length l.items);
  rest : reading.along l.fn.kids (reading.further l.items l.fn.room l.fn.series l.fn.at) ≡ reading.along l.kids (rest l.items l.fn.room (reading.tail_of l.fn.series) (looped (reading.row_of l.fn.series)) (suc (length l.items) - l.turn) l.end);
}
