use Rattle.std.proofs.Common.{◌≡◌, ◌≤◌, ◌∙◌, ℕ, ap, subst, refl, true, cond, inl, inr}
use Rattle.std.specs.Prelude.{Option, None, Some, Bool, unwrap_or}
use Rattle.std.specs.Ordering.{is_eq}
use Rattle.std.specs.BTreeMap.{get}
use Rattle.piece_store.specs.Kept.{answer_of, row_answer}
use Rattle.piece_store.specs.Slots.{slot, put_at}
use Rattle.piece_store.proofs.Outcomes.{on_ok, on_err}
use Rattle.piece_store.proofs.ByNumber.{by_numbers}
use Rattle.open_store.specs.declared.held.HeldRow.{HeldRow}
use Rattle.open_store.proofs.Rows.{here, same_one, either, fit_set, fit_at, apart_set, pieces_set, fits_put, held_put, held_same, answer_put}
use Rattle.open_store.proofs.held.OpenStore.keep.Goals as goal

pub returns-clause-open : goal.returns-clause-open
returns-clause-open g c =
    let store = c.args.self.now.store in
    let rows = c.args.self.now.rows.items in
    let n = c.args.number in
    let u = c.index_mut.result.now in
    let t : HeldRow g.row.P.Denot g.row.V.Denot = record { piece = u.piece; row = c.keep.new.self } in
    let there = here rows c.args.at u c.requires.at c.index_mut.ensures.value in
    let fits = fit_at store rows c.args.at u there c.requires.open.fit in
    let x : Option (Option g.row.V.Denot × Bool) = Some (c.unless_empty.result, true) in
    let A : Type 0 = (i : ℕ) → slot c.keep.new.self i ≡ put_at n x (slot u.row) i in
    let B : Type 0 = (i : ℕ) → slot c.keep.new.self i ≡ slot u.row i in
    let kept_fits : (i : ℕ) → store.next ≤ i → slot c.keep.new.self i ≡ None = elim (either A B c.keep.result c.keep.ensures.ok c.keep.ensures.err) [
      | inl puts ↦ fits_put n store.next x (slot u.row) (slot c.keep.new.self) c.requires.given puts fits
      | inr same ↦ λ i h. same i ∙ fits i h
    ] in
    record {
      sound = c.requires.open.sound;
      fit = fit_set store rows c.args.at t kept_fits c.requires.open.fit;
      apart = apart_set g.P.Ord.cmp rows c.args.at u t there refl c.requires.open.apart;
    }

pub returns-clause-ok : goal.returns-clause-ok
returns-clause-ok g c r q e f =
    let R = g.P.Ord.cmp in
    let S = g.Q.Ord.cmp in
    let s = c.args.self.now in
    let n = c.args.number in
    let u = c.index_mut.result.now in
    let is = same_one s.rows.items c.args.at u r (here s.rows.items c.args.at u c.requires.at c.index_mut.ensures.value) e in
    let t : HeldRow g.row.P.Denot g.row.V.Denot = record { piece = u.piece; row = c.keep.new.self } in
    let x : Option (Option g.row.V.Denot × Bool) = Some (c.unless_empty.result, true) in
    let put : Option (g.row.V.Denot × Bool) = Some (c.args.answer, true) in
    let lent : answer_of s.store.empty x ≡ put =
    ap (λ (v : g.row.V.Denot). let y : Option (g.row.V.Denot × Bool) = Some (unwrap_or c.unless_empty.result v, true) in y) c.requires.open.sound.empty
    ∙ ap (λ (v : g.row.V.Denot). let y : Option (g.row.V.Denot × Bool) = Some (v, true) in y) c.unless_empty.ensures in
    on_ok _ _ c.keep.result (λ puts o p z.
    let P : HeldRow g.row.P.Denot g.row.V.Denot → Type 0 = λ y. (i : ℕ) → slot c.keep.new.self i ≡ put_at n x (slot y.row) i in
    let there = subst P is puts in
    held_put R S g.met.P.Ord.total s.store s.path q put r t (ap (λ (y : HeldRow g.row.P.Denot g.row.V.Denot). y.piece) is)
    (λ y.
    by_numbers (λ j. answer_of s.store.empty (slot c.keep.new.self j)) (λ j. answer_of s.store.empty (put_at n x (slot r.row) j)) (λ j. ap (answer_of s.store.empty) (there j)) (get S s.store.numbers y)
    ∙ answer_put S g.met.Q.Ord.total s.store.numbers c.requires.open.sound.apart q n f s.store.empty x (slot r.row) y
    ∙ ap (λ (k : Option (g.row.V.Denot × Bool)). cond (is_eq (S q y)) k (row_answer S s.store r.row y)) lent)
    s.rows.items c.args.at c.requires.open.apart e o p z) c.keep.ensures.ok

pub returns-clause-err : goal.returns-clause-err
returns-clause-err g c =
    let R = g.P.Ord.cmp in
    let S = g.Q.Ord.cmp in
    let s = c.args.self.now in
    let u = c.index_mut.result.now in
    let t : HeldRow g.row.P.Denot g.row.V.Denot = record { piece = u.piece; row = c.keep.new.self } in
    let there = here s.rows.items c.args.at u c.requires.at c.index_mut.ensures.value in
    on_err _ _ c.keep.result (λ same o p z.
    held_same R S g.met.P.Ord.total s.store s.path u t refl
    (λ y. by_numbers (λ j. answer_of s.store.empty (slot c.keep.new.self j)) (λ j. answer_of s.store.empty (slot u.row j)) (λ j. ap (answer_of s.store.empty) (same j)) (get S s.store.numbers y))
    s.rows.items c.args.at there o p z) c.keep.ensures.err

pub returns-clause-pieces : goal.returns-clause-pieces
returns-clause-pieces g c =
    let rows = c.args.self.now.rows.items in
    let u = c.index_mut.result.now in
    pieces_set rows c.args.at u (record { piece = u.piece; row = c.keep.new.self }) (here rows c.args.at u c.requires.at c.index_mut.ensures.value) refl
