use Rattle.std.proofs.Common.{◌≡◌, suc, length, ◌≤◌, ◌-◌, ◌+◌, ◌*◌}
use Rattle.grammar.specs.Rule.{ref}
use Rattle.py_suite.specs.Table.{Stmt, StmtsTail, Handler, HandlersTail, looped}
use Rattle.py_suite.specs.reader.Reading as reading
use Rattle.py_suite.proofs.Rounds.{rest}
use Rattle.py_suite.proofs.+blocks.Given as goal

abbrev pub decreases-blocks::statements : goal.decreases-blocks::statements
decreases-blocks::statements l = 64 * l.room + 50

abbrev pub decreases-blocks::more_statements : goal.decreases-blocks::more_statements
decreases-blocks::more_statements l = 64 * l.room + 49

abbrev pub decreases-blocks::statement : goal.decreases-blocks::statement
decreases-blocks::statement l = 64 * l.room + 48

abbrev pub decreases-blocks::compound : goal.decreases-blocks::compound
decreases-blocks::compound l = 64 * l.room + 47

abbrev pub decreases-definitions::decorated : goal.decreases-definitions::decorated
decreases-definitions::decorated l = 64 * l.room + 46

abbrev pub decreases-definitions::waited : goal.decreases-definitions::waited
decreases-definitions::waited l = 64 * l.room + 46

abbrev pub decreases-definitions::function : goal.decreases-definitions::function
decreases-definitions::function l = 64 * l.room + 45

abbrev pub decreases-definitions::class : goal.decreases-definitions::class
decreases-definitions::class l = 64 * l.room + 45

abbrev pub decreases-definitions::def_rest : goal.decreases-definitions::def_rest
decreases-definitions::def_rest l = 64 * l.room + 44

abbrev pub decreases-definitions::class_rest : goal.decreases-definitions::class_rest
decreases-definitions::class_rest l = 64 * l.room + 44

abbrev pub decreases-compound::tried : goal.decreases-compound::tried
decreases-compound::tried l = 64 * l.room + 46

abbrev pub decreases-compound::try_rest : goal.decreases-compound::try_rest
decreases-compound::try_rest l = 64 * l.room + 45

abbrev pub decreases-compound::handlers : goal.decreases-compound::handlers
decreases-compound::handlers l = 64 * l.room + 44

abbrev pub decreases-compound::more_handlers : goal.decreases-compound::more_handlers
decreases-compound::more_handlers l = 64 * l.room + 43

abbrev pub decreases-compound::handler : goal.decreases-compound::handler
decreases-compound::handler l = 64 * l.room + 42

abbrev pub decreases-compound::else_or_absent : goal.decreases-compound::else_or_absent
decreases-compound::else_or_absent l = 64 * l.room + 40

abbrev pub decreases-compound::some_else : goal.decreases-compound::some_else
decreases-compound::some_else l = 64 * l.room + 40

abbrev pub decreases-compound::else_part : goal.decreases-compound::else_part
decreases-compound::else_part l = 64 * l.room + 39

abbrev pub decreases-compound::finally_part : goal.decreases-compound::finally_part
decreases-compound::finally_part l = 64 * l.room + 39

abbrev pub decreases-compound::for_loop : goal.decreases-compound::for_loop
decreases-compound::for_loop l = 64 * l.room + 45

abbrev pub decreases-compound::for_rest : goal.decreases-compound::for_rest
decreases-compound::for_rest l = 64 * l.room + 44

abbrev pub decreases-compound::with_block : goal.decreases-compound::with_block
decreases-compound::with_block l = 64 * l.room + 45

abbrev pub decreases-compound::with_rest : goal.decreases-compound::with_rest
decreases-compound::with_rest l = 64 * l.room + 44

abbrev pub decreases-compound::while_loop : goal.decreases-compound::while_loop
decreases-compound::while_loop l = 64 * l.room + 46

abbrev pub decreases-compound::if_statement : goal.decreases-compound::if_statement
decreases-compound::if_statement l = 64 * l.room + 46

abbrev pub decreases-compound::branches : goal.decreases-compound::branches
decreases-compound::branches l = 64 * l.room + 45

abbrev pub decreases-compound::condition : goal.decreases-compound::condition
decreases-compound::condition l = 64 * l.room + 30

abbrev pub decreases-compound::body : goal.decreases-compound::body
decreases-compound::body l = 64 * l.room + 20

abbrev pub decreases-blocks::suite : goal.decreases-blocks::suite
decreases-blocks::suite l = 64 * l.room + 10

abbrev pub invariant-blocks::more_statements-loop-turn : goal.invariant-blocks::more_statements-loop-turn
invariant-blocks::more_statements-loop-turn l = record {
  within : l.end ≤ length l.items;
  turns : l.turn ≤ suc (length l.items);
  rest : reading.along l.fn.kids (reading.more_statements l.items l.fn.room l.fn.at) ≡ reading.along l.kids (rest l.items l.fn.room StmtsTail (looped (ref Stmt)) (suc (length l.items) - l.turn) l.end);
}

abbrev pub invariant-compound::more_handlers-loop-turn : goal.invariant-compound::more_handlers-loop-turn
invariant-compound::more_handlers-loop-turn l = record {
  within : l.end ≤ length l.items;
  turns : l.turn ≤ suc (length l.items);
  rest : reading.along l.fn.kids (reading.more_handlers l.items l.fn.room l.fn.at) ≡ reading.along l.kids (rest l.items l.fn.room HandlersTail (looped (ref Handler)) (suc (length l.items) - l.turn) l.end);
}
