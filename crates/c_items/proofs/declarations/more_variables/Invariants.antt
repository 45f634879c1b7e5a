use Rattle.std.proofs.Common.{◌≡◌, ◌≤◌, ◌-◌, suc, length}
use Rattle.c_items.specs.Table.{VarsTail}
use Rattle.c_items.specs.reader.Reading.{level, along}
use Rattle.c_items.proofs.Steps.{rest}
use Rattle.c_items.proofs.declarations.more_variables.Given as goal

abbrev pub invariant-loop-turn : goal.invariant-loop-turn
invariant-loop-turn l = record {
  within : l.end ≤ length l.tokens;
  turns : l.turn ≤ suc (length l.tokens);
  rest : along l.fn.vars.items (level l.fn.tokens l.fn.room VarsTail l.fn.at) ≡ along l.vars.items (rest l.fn.tokens l.fn.room VarsTail (suc (length l.fn.tokens) - l.turn) l.end);
}
