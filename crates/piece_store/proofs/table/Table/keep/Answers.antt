use Rattle.std.proofs.Common.{refl}
use Rattle.piece_store.proofs.Outcomes.{on_ok, on_err}
use Rattle.piece_store.proofs.Settled.{put_in, kept_in}
use Rattle.piece_store.proofs.table.Table.keep.Goals as goal

pub returns-clause-ok : goal.returns-clause-ok
returns-clause-ok g c = on_ok _ _ c.keep.result (λ puts. put_in g.P.Ord.cmp c.args.self.now c.settle.new.self c.settle.ensures.same c.settle.ensures.each c.keep.new.rows c.args.piece c.args.number _ _ refl puts) c.keep.ensures.ok

pub returns-clause-err : goal.returns-clause-err
returns-clause-err g c = on_err _ _ c.keep.result (λ stays. kept_in g.P.Ord.cmp c.args.self.now c.settle.new.self c.settle.ensures.same c.settle.ensures.each c.keep.new.rows stays) c.keep.ensures.err
