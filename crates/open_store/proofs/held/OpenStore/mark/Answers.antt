use Rattle.std.proofs.Common.{◌≡◌, ◌∙◌, ℕ, sym, ap, subst, refl, true, cond}
use Rattle.std.specs.Prelude.{Option, Bool, is_some}
use Rattle.std.specs.Ordering.{is_eq}
use Rattle.std.specs.BTreeMap.{get}
use Rattle.piece_store.specs.Kept.{answer_of, row_answer}
use Rattle.piece_store.specs.Slots.{slot, put_at, marked}
use Rattle.piece_store.proofs.ByNumber.{by_numbers, met_answer}
use Rattle.open_store.specs.InHand.{held}
use Rattle.open_store.specs.declared.held.HeldRow.{HeldRow}
use Rattle.open_store.proofs.Rows.{here, same_one, fit_set, fit_at, apart_set, pieces_set, fits_marked, held_at, held_put, row_at, lent_some, answer_put}
use Rattle.open_store.proofs.held.OpenStore.mark.Goals as goal

pub returns-clause-open : goal.returns-clause-open
returns-clause-open g c =
    let store = c.args.self.now.store in
    let rows = c.args.self.now.rows.items in
    let u = c.index_mut.result.now in
    let t : HeldRow g.row.P.Denot g.row.V.Denot = record { piece = u.piece; row = c.mark.new.self } in
    let there = here rows c.args.at u c.requires.at c.index_mut.ensures.value in
    record {
      sound = c.requires.open.sound;
      fit = fit_set store rows c.args.at t (fits_marked c.args.number store.next (slot u.row) (slot c.mark.new.self) c.mark.ensures.marked (fit_at store rows c.args.at u there c.requires.open.fit)) c.requires.open.fit;
      apart = apart_set g.P.Ord.cmp rows c.args.at u t there refl c.requires.open.apart;
    }

pub returns-clause-told : goal.returns-clause-told
returns-clause-told g c r q e f =
    let R = g.P.Ord.cmp in
    let S = g.Q.Ord.cmp in
    let s = c.args.self.now in
    let u = c.index_mut.result.now in
    let is = same_one s.rows.items c.args.at u r (here s.rows.items c.args.at u c.requires.at c.index_mut.ensures.value) e in
    c.mark.ensures.told
    ∙ ap (λ (x : HeldRow g.row.P.Denot g.row.V.Denot). is_some (slot x.row c.args.number)) is
    ∙ sym (lent_some s.store.empty (slot r.row c.args.number))
    ∙ sym (ap is_some (held_at R S g.met.P.Ord.total s.store s.path s.rows.items c.args.at r c.requires.open.apart e q ∙ row_at S s.store r.row q c.args.number f))

pub returns-clause-met : goal.returns-clause-met
returns-clause-met g c r q e f o p z =
    let R = g.P.Ord.cmp in
    let S = g.Q.Ord.cmp in
    let s = c.args.self.now in
    let n = c.args.number in
    let u = c.index_mut.result.now in
    let is = same_one s.rows.items c.args.at u r (here s.rows.items c.args.at u c.requires.at c.index_mut.ensures.value) e in
    let t : HeldRow g.row.P.Denot g.row.V.Denot = record { piece = u.piece; row = c.mark.new.self } in
    let was = slot r.row n in
    let lent = held_at R S g.met.P.Ord.total s.store s.path s.rows.items c.args.at r c.requires.open.apart e q ∙ row_at S s.store r.row q n f in
    let P : HeldRow g.row.P.Denot g.row.V.Denot → Type 0 = λ x. (i : ℕ) → slot c.mark.new.self i ≡ put_at n (marked (slot x.row n)) (slot x.row) i in
    let marks = subst P is c.mark.ensures.marked in
    let marked_lent = met_answer s.store.empty true was ∙ ap marked (sym lent) in
    held_put R S g.met.P.Ord.total s.store s.path q (marked (held R S s s.path r.piece q)) r t (ap (λ (x : HeldRow g.row.P.Denot g.row.V.Denot). x.piece) is)
    (λ y.
    by_numbers (λ j. answer_of s.store.empty (slot c.mark.new.self j)) (λ j. answer_of s.store.empty (put_at n (marked was) (slot r.row) j)) (λ j. ap (answer_of s.store.empty) (marks j)) (get S s.store.numbers y)
    ∙ answer_put S g.met.Q.Ord.total s.store.numbers c.requires.open.sound.apart q n f s.store.empty (marked was) (slot r.row) y
    ∙ ap (λ (x : Option (g.row.V.Denot × Bool)). cond (is_eq (S q y)) x (row_answer S s.store r.row y)) marked_lent)
    s.rows.items c.args.at c.requires.open.apart e o p z

pub returns-clause-pieces : goal.returns-clause-pieces
returns-clause-pieces g c =
    let rows = c.args.self.now.rows.items in
    let u = c.index_mut.result.now in
    pieces_set rows c.args.at u (record { piece = u.piece; row = c.mark.new.self }) (here rows c.args.at u c.requires.at c.index_mut.ensures.value) refl
