use Rattle.std.proofs.Common.{◌∙◌, sym, ap}
use Rattle.std.specs.Prelude.{Option, Some, unwrap_or, option_map}
use Rattle.std.specs.Option.{option_copied}
use Rattle.std.specs.Borrow.{Bor}
use Rattle.piece_store.specs.Slots.{slot}
use Rattle.open_store.specs.declared.held.HeldRow.{HeldRow}
use Rattle.open_store.proofs.Rows.{here, same_one, held_at, row_at, looked}
use Rattle.open_store.proofs.held.OpenStore.look.Goals as goal

pub returns-in-None : goal.returns-in-None
returns-in-None g c r q e f =
    let S = g.Q.Ord.cmp in
    let s = c.args.self.now in
    let u = c.index.result.now in
    let is = same_one s.rows.items c.args.at u r (here s.rows.items c.args.at u c.requires.at c.index.ensures) e in
    let lent = held_at g.P.Ord.cmp S g.met.P.Ord.total s.store s.path s.rows.items c.args.at r c.requires.open.apart e q ∙ row_at S s.store r.row q c.args.number f in
    let F : Option (Option g.row.V.Denot) → Option g.row.V.Denot = λ k. option_map (λ v. unwrap_or v s.store.empty) k in
    sym (ap (option_map (λ k. k.0)) lent ∙ looked s.store.empty (slot r.row c.args.number) ∙ ap (λ (x : HeldRow g.row.P.Denot g.row.V.Denot). F (option_map (λ k. k.0) (slot x.row c.args.number))) (sym is) ∙ ap F c.in-None.ensures)

pub returns-in-Some-None : goal.returns-in-Some-None
returns-in-Some-None g c r q e f =
    let S = g.Q.Ord.cmp in
    let s = c.args.self.now in
    let u = c.index.result.now in
    let is = same_one s.rows.items c.args.at u r (here s.rows.items c.args.at u c.requires.at c.index.ensures) e in
    let lent = held_at g.P.Ord.cmp S g.met.P.Ord.total s.store s.path s.rows.items c.args.at r c.requires.open.apart e q ∙ row_at S s.store r.row q c.args.number f in
    let F : Option (Option g.row.V.Denot) → Option g.row.V.Denot = λ k. option_map (λ v. unwrap_or v s.store.empty) k in
    sym (ap (option_map (λ k. k.0)) lent ∙ looked s.store.empty (slot r.row c.args.number) ∙ ap (λ (x : HeldRow g.row.P.Denot g.row.V.Denot). F (option_map (λ k. k.0) (slot x.row c.args.number))) (sym is) ∙ ap F c.in-Some-None.ensures ∙ ap (λ (z : Option (Bor g.row.V.Denot)). Some (unwrap_or (option_copied z) s.store.empty)) c.in-Some-None.field-0-is)

pub returns-in-Some-Some : goal.returns-in-Some-Some
returns-in-Some-Some g c r q e f =
    let S = g.Q.Ord.cmp in
    let s = c.args.self.now in
    let u = c.index.result.now in
    let is = same_one s.rows.items c.args.at u r (here s.rows.items c.args.at u c.requires.at c.index.ensures) e in
    let lent = held_at g.P.Ord.cmp S g.met.P.Ord.total s.store s.path s.rows.items c.args.at r c.requires.open.apart e q ∙ row_at S s.store r.row q c.args.number f in
    let F : Option (Option g.row.V.Denot) → Option g.row.V.Denot = λ k. option_map (λ v. unwrap_or v s.store.empty) k in
    sym (ap (option_map (λ k. k.0)) lent ∙ looked s.store.empty (slot r.row c.args.number) ∙ ap (λ (x : HeldRow g.row.P.Denot g.row.V.Denot). F (option_map (λ k. k.0) (slot x.row c.args.number))) (sym is) ∙ ap F c.in-Some-Some.ensures ∙ ap (λ (z : Option (Bor g.row.V.Denot)). Some (unwrap_or (option_copied z) s.store.empty)) c.in-Some-Some.field-0-is)
