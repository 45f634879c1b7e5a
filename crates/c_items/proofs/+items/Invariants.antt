use Rattle.std.proofs.Common.{◌≡◌, ◌≤◌, ◌+◌, ◌-◌, ◌*◌, suc, length}
use Rattle.c_items.specs.Table.{Items, Labelled}
use Rattle.c_items.specs.reader.Reading.{level, along}
use Rattle.c_items.proofs.Steps.{rest}
use Rattle.c_items.proofs.+items.Given as goal

abbrev pub decreases-blocks::items : goal.decreases-blocks::items
decreases-blocks::items l = 16 * l.room + 9

abbrev pub decreases-blocks::sub : goal.decreases-blocks::sub
decreases-blocks::sub l = 16 * l.room + 8

abbrev pub decreases-blocks::labelled : goal.decreases-blocks::labelled
decreases-blocks::labelled l = 16 * l.room + 7

abbrev pub decreases-blocks::item : goal.decreases-blocks::item
decreases-blocks::item l = 16 * l.room + 6

abbrev pub decreases-statements::statement : goal.decreases-statements::statement
decreases-statements::statement l = 16 * l.room + 5

abbrev pub decreases-loops::if_statement : goal.decreases-loops::if_statement
decreases-loops::if_statement l = 16 * l.room + 4

abbrev pub decreases-loops::else_part : goal.decreases-loops::else_part
decreases-loops::else_part l = 16 * l.room + 3

abbrev pub decreases-loops::while_loop : goal.decreases-loops::while_loop
decreases-loops::while_loop l = 16 * l.room + 2

abbrev pub decreases-loops::do_loop : goal.decreases-loops::do_loop
decreases-loops::do_loop l = 16 * l.room + 2

abbrev pub decreases-loops::for_loop : goal.decreases-loops::for_loop
decreases-loops::for_loop l = 16 * l.room + 2

abbrev pub decreases-loops::switch : goal.decreases-loops::switch
decreases-loops::switch l = 16 * l.room + 2

abbrev pub decreases-blocks::block : goal.decreases-blocks::block
decreases-blocks::block l = 16 * l.room + 1

abbrev pub invariant-blocks::items-loop-turn : goal.invariant-blocks::items-loop-turn
invariant-blocks::items-loop-turn l = record {
  within : l.end ≤ length l.tokens;
  turns : l.turn ≤ suc (length l.tokens);
  rest : level l.fn.tokens l.fn.room Items l.fn.at ≡ along l.parts.items (rest l.fn.tokens l.fn.room Items (suc (length l.fn.tokens) - l.turn) l.end);
}

abbrev pub invariant-blocks::labelled-loop-turn : goal.invariant-blocks::labelled-loop-turn
invariant-blocks::labelled-loop-turn l = record {
  within : l.end ≤ length l.tokens;
  turns : l.turn ≤ suc (length l.tokens);
  rest : level l.fn.tokens l.fn.room Labelled l.fn.at ≡ along l.parts.items (rest l.fn.tokens l.fn.room Labelled (suc (length l.fn.tokens) - l.turn) l.end);
}
