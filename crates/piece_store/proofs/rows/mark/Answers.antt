use Rattle.std.proofs.Common.{rules, ◌∙◌, ap}
use Rattle.std.specs.Prelude.{Option}
use Rattle.piece_store.specs.declared.row.Row.{Row}
use Rattle.piece_store.specs.Slots.{row_slot, put_at, marked}
use Rattle.piece_store.proofs.RowPuts.{put_slots}
use Rattle.piece_store.proofs.rows.mark.Goals as goal

pub returns-in-Some-clause-marked : goal.returns-in-Some-clause-marked
returns-in-Some-clause-marked g c =
    let w = c.mark.new.self in
    let n = c.args.number in
    put_slots g.P.Ord.cmp g.met.P.Ord.total c.args.rows.now (c.get_mut.follows.lender w) c.args.piece.now w ((c.get_mut.follows.holds w).3 (search rules)).0 n _
    (λ i. c.mark.ensures.marked i ∙ ap (λ (o : Option (Row g.row.V.Denot)). put_at n (marked (row_slot o n)) (row_slot o) i) c.in-Some.ensures.value)
