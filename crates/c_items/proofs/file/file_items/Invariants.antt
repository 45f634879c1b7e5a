use Rattle.std.proofs.Common.{◌≡◌, ◌≤◌, ◌-◌, suc, length}
use Rattle.c_items.specs.Table.{File}
use Rattle.c_items.specs.reader.Reading.{level, along}
use Rattle.c_items.proofs.Steps.{rest}
use Rattle.c_items.proofs.file.file_items.Given as goal

abbrev pub invariant-loop-turn : goal.invariant-loop-turn
invariant-loop-turn l = record {
  within : l.end ≤ length l.tokens;
  turns : l.turn ≤ suc (length l.tokens);
  rest : level l.fn.tokens l.fn.room File l.fn.at ≡ along l.parts.items (rest l.fn.tokens l.fn.room File (suc (length l.fn.tokens) - l.turn) l.end);
}
