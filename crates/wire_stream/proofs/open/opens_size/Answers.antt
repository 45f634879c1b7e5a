use Rattle.wire_stream.proofs.Opening.{nothing_sized, number_sized, no_number, empty_bytes, some_bytes}
use Rattle.wire_stream.proofs.open.opens_size.Goals as goal

pub returns-then-is_empty-clause-open : goal.returns-then-is_empty-clause-open
returns-then-is_empty-clause-open c = λ t. nothing_sized c.args.bytes.now (empty_bytes c.args.bytes.now c.is_empty.result c.if-is_empty.true c.is_empty.ensures)

pub returns-in-Some-clause-open : goal.returns-in-Some-clause-open
returns-in-Some-clause-open c = λ t. number_sized c.args.bytes.now _ c.in-Some.ensures.0 c.in-Some.ensures.1

pub returns-in-None-clause-closed : goal.returns-in-None-clause-closed
returns-in-None-clause-closed c = λ f. no_number c.args.bytes.now c.requires (some_bytes c.args.bytes.now c.is_empty.result c.if-is_empty.false c.is_empty.ensures) c.in-None.ensures
