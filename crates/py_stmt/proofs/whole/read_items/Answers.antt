use Rattle.std.proofs.Common.{arith, ap, Some}
use Rattle.py_suite.specs.reader.Reading as reading
use Rattle.py_suite.proofs.Forms.{passed_on}
use Rattle.py_stmt.proofs.Wholes.{read_are, one_whole, not_nothing, are_bracketed}
use Rattle.py_stmt.proofs.whole.read_items.Goals as goal

pub returns-then-shallow_end-items-clause-only : goal.returns-then-shallow_end-items-clause-only
returns-then-shallow_end-items-clause-only c = λ ns r. absurd (omega (arith, c.shallow_end.ensures.many c.if-shallow_end-items.true, are_bracketed c.args.items.now ns c.shallow_end.result r c.if-shallow_end-items.true))

pub returns-in_err-kids-clause-only : goal.returns-in_err-kids-clause-only
returns-in_err-kids-clause-only c = λ ns r. passed_on (λ m. m) reading.all c.from_residual.result c.in_err-kids.field-0.0 _ (Some ns) c.from_residual.ensures.1 c.in_err-kids.ensures.gives (λ none. not_nothing c.args.items.now ns ns r none)

pub returns-then-end-items-clause-only : goal.returns-then-end-items-clause-only
returns-then-end-items-clause-only c = λ ns r. absurd (omega (arith, c.if-end-items.true, (one_whole c.args.items.now ns c.in_ok-kids.kids c.in_ok-kids.end r c.in_ok-kids.ensures.gives).1))

pub returns-clause-found : goal.returns-clause-found
returns-clause-found c = λ shallow. read_are c.args.items.now c.in_ok-kids.kids c.in_ok-kids.end c.in_ok-kids.ensures.gives (omega (arith, c.in_ok-kids.ensures.within, c.if-end-items.false)) shallow (λ k a b. c.shallow_end.ensures.few k a (omega (arith, b, c.in_ok-kids.ensures.within, c.if-shallow_end-items.false)))

pub returns-clause-only : goal.returns-clause-only
returns-clause-only c = λ ns r. ap Some (one_whole c.args.items.now ns c.in_ok-kids.kids c.in_ok-kids.end r c.in_ok-kids.ensures.gives).0
