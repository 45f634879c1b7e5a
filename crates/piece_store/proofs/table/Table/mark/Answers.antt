use Rattle.std.proofs.Common.{◌∙◌, ap}
use Rattle.std.specs.Prelude.{is_some}
use Rattle.piece_store.specs.Slots.{marked}
use Rattle.piece_store.proofs.Settled.{put_in, settled}
use Rattle.piece_store.proofs.table.Table.mark.Goals as goal

pub returns-clause-told : goal.returns-clause-told
returns-clause-told g c = c.mark.ensures.told ∙ ap is_some (settled g.P.Ord.cmp c.args.self.now c.settle.new.self c.settle.ensures.same c.settle.ensures.each c.args.piece.now c.args.number)

pub returns-clause-marked : goal.returns-clause-marked
returns-clause-marked g c =
    let here = settled g.P.Ord.cmp c.args.self.now c.settle.new.self c.settle.ensures.same c.settle.ensures.each c.args.piece.now c.args.number in
    put_in g.P.Ord.cmp c.args.self.now c.settle.new.self c.settle.ensures.same c.settle.ensures.each c.mark.new.rows c.args.piece.now c.args.number _ _ (ap marked here) c.mark.ensures.marked
