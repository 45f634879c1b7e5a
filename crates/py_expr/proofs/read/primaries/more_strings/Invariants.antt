use Rattle.std.proofs.Common.{◌≡◌, suc, length, ◌≤◌, ◌-◌, ◌++◌, [], ◌∷◌, Some}
use Rattle.grammar.specs.Reader.{◌>>=◌}
use Rattle.py_expr.specs.Parts.{more, nodes_of}
use Rattle.py_expr.specs.Table.{MoreStrings}
use Rattle.py_expr.specs.reader.Reading.{level}
use Rattle.py_expr.proofs.Steps.{more_strings_rest}
use Rattle.py_expr.proofs.read.primaries.more_strings.Given as goal

abbrev pub invariant-loop-turn : goal.invariant-loop-turn
invariant-loop-turn l = record {
  within : l.end ≤ length l.items;
  turns : l.turn ≤ suc (length l.items);
  rest : level l.items l.room MoreStrings l.at ≡ (more_strings_rest l.items l.room (suc (length l.items) - l.turn) l.end >>= λ y. Some (more (l.kids ++ nodes_of y.0) ∷ [], y.1));
}
