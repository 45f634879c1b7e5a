use Rattle.std.proofs.Common.{arith, sym}
use Rattle.py_suite.proofs.Files.{file_read}
use Rattle.py_suite.proofs.file.file_input.Goals as goal

pub returns-clause-gives : goal.returns-clause-gives
returns-clause-gives c = file_read c.args.items.now c.args.room c.args.at c.in_ok-kids.end c.in_ok-kids.kids (grind (arith, c.if-room-eq0.false)) c.in_ok-kids.ensures.gives (sym c.if-not-is.ensures.test)
