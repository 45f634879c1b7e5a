use Rattle.std.proofs.Common.{◌∙◌, sym}
use Rattle.piece_store.proofs.Outcomes.{if_some, if_none}
use Rattle.piece_store.proofs.Settled.{row_in, settled}
use Rattle.piece_store.proofs.table.Table.take.Goals as goal

pub returns-clause-taken : goal.returns-clause-taken
returns-clause-taken g c = if_some _ _ c.take.result (λ row has i. has i ∙ settled g.P.Ord.cmp c.args.self.now c.settle.new.self c.settle.ensures.same c.settle.ensures.each c.args.piece.now i) c.take.ensures.taken

pub returns-clause-none : goal.returns-clause-none
returns-clause-none g c = if_none _ _ c.take.result (λ none i. sym (settled g.P.Ord.cmp c.args.self.now c.settle.new.self c.settle.ensures.same c.settle.ensures.each c.args.piece.now i) ∙ none i) c.take.ensures.none

pub returns-clause-left : goal.returns-clause-left
returns-clause-left g c = row_in g.P.Ord.cmp c.args.self.now c.settle.new.self c.settle.ensures.same c.settle.ensures.each c.take.new.rows c.args.piece.now _ c.take.ensures.left
