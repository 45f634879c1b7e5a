use Rattle.piece_store.proofs.Outcomes.{on_ok, on_err}
use Rattle.piece_store.proofs.Settled.{row_in, kept_in}
use Rattle.piece_store.proofs.table.Table.give.Goals as goal

pub returns-clause-ok : goal.returns-clause-ok
returns-clause-ok g c = on_ok _ _ c.give.result (λ puts. row_in g.P.Ord.cmp c.args.self.now c.settle.new.self c.settle.ensures.same c.settle.ensures.each c.give.new.rows c.args.piece _ puts) c.give.ensures.ok

pub returns-clause-err : goal.returns-clause-err
returns-clause-err g c = on_err _ _ c.give.result (λ stays. kept_in g.P.Ord.cmp c.args.self.now c.settle.new.self c.settle.ensures.same c.settle.ensures.each c.give.new.rows stays) c.give.ensures.err
