use Rattle.std.proofs.Common.{rules, ◌∙◌, ap, true, cond, nat_eq}
use Rattle.std.specs.Prelude.{Option, Some, Bool}
use Rattle.std.specs.Ordering.{is_eq}
use Rattle.std.specs.BTreeMap.{BTreeMap, get}
use Rattle.piece_store.specs.declared.row.Row.{Row}
use Rattle.piece_store.specs.Slots.{row_slot, put_at}
use Rattle.piece_store.proofs.Outcomes.{anyway}
use Rattle.piece_store.proofs.RowPuts.{put_slots, same_slots}
use Rattle.piece_store.proofs.rows.keep.Goals as goal

pub returns-in_err-keep-clause-err : goal.returns-in_err-keep-clause-err
returns-in_err-keep-clause-err g c =
    let w = c.keep.new.self in
    anyway _ c.from_residual.result (same_slots g.P.Ord.cmp g.met.P.Ord.total c.args.rows.now (c.get_mut.follows.lender w) c.args.piece w ((c.get_mut.follows.holds w).3 (search rules)).0
    (λ i. c.in_err-keep.ensures.err i ∙ ap (λ (o : Option (Row g.row.V.Denot)). row_slot o i) c.in-Some.ensures.value))

pub returns-in-Some-clause-ok : goal.returns-in-Some-clause-ok
returns-in-Some-clause-ok g c =
    let w = c.keep.new.self in
    let x : Option (Option g.row.V.Denot × Bool) = Some (c.args.value, true) in
    put_slots g.P.Ord.cmp g.met.P.Ord.total c.args.rows.now (c.get_mut.follows.lender w) c.args.piece w ((c.get_mut.follows.holds w).3 (search rules)).0 c.args.number x
    (λ i. c.in_ok-keep.ensures.ok i ∙ ap (λ (o : Option (Row g.row.V.Denot)). put_at c.args.number x (row_slot o) i) c.in-Some.ensures.value)

pub returns-clause-ok : goal.returns-clause-ok
returns-clause-ok g c =
    let w = c.keep-2.new.self in
    let x : Option (Option g.row.V.Denot × Bool) = Some (c.args.value, true) in
    put_slots g.P.Ord.cmp g.met.P.Ord.total c.args.rows.now c.insert.new.self c.args.piece w
    (λ q. c.in_ok-insert.ensures.updates.0 q ∙ ap (λ (m : BTreeMap g.row.P.Denot (Row g.row.V.Denot)). cond (is_eq (g.P.Ord.cmp c.args.piece q)) (Some w) (get g.P.Ord.cmp m q)) c.get_mut.follows.holds-at-none) c.args.number x
    (λ i. c.in_ok-keep-2.ensures.ok i ∙ ap (λ (y : Option (Option g.row.V.Denot × Bool)). cond (nat_eq c.args.number i) x y) (c.new-row.ensures i ∙ ap (λ (o : Option (Row g.row.V.Denot)). row_slot o i) c.in_default.ensures.value))
