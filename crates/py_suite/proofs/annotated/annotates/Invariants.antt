use Rattle.std.proofs.Common.{◌≡◌, ◌-◌, ◌≤◌}
use Rattle.py_suite.specs.Table as table
use Rattle.py_suite.specs.Build.{source}
use Rattle.py_suite.proofs.annotated.annotates.Given as goal

abbrev pub invariant-loop-turn : goal.invariant-loop-turn
invariant-loop-turn l = record {
  few : l.open ≤ l.turn;
  rest : table.annotates (source l.items).cls l.at ≡ table.colon_after (table.most - l.turn) (source l.items).cls l.end l.open;
}
