use Rattle.std.proofs.Common.{◌≡◌, ◌≤◌, ◌∙◌, ℕ, List, sym, ap, subst}
use Rattle.std.specs.Prelude.{None}
use Rattle.piece_store.specs.Kept.{kept, put_piece, row_answer}
use Rattle.open_store.specs.InHand.{with_rows, AreApart, AreRowsOf}
use Rattle.open_store.specs.declared.held.HeldRow.{HeldRow}
use Rattle.open_store.proofs.Rows.{fit_behind, fit_as, apart_behind, held_behind, answers_as, taken_back}
use Rattle.open_store.proofs.held.OpenStore.hold.Goals as goal

pub returns-clause-open : goal.returns-clause-open
returns-clause-open g c =
    let R = g.P.Ord.cmp in
    let old = c.args.self.now.store in
    let new = c.take_row-row.new.store in
    let rows = c.args.self.now.rows.items in
    let r : HeldRow g.row.P.Denot g.row.V.Denot = record { piece = c.args.piece; row = c.take_row-row.result } in
    let taken = c.take_row-row.ensures in
    let F : List (HeldRow g.row.P.Denot g.row.V.Denot) → Type 0 = λ rows. AreRowsOf new rows in
    let A : List (HeldRow g.row.P.Denot g.row.V.Denot) → Type 0 = λ rows. AreApart R rows in
    record {
      sound = taken.sound;
      fit = subst F (sym c.in_ok-push.ensures.items) (fit_behind new rows r (fit_as old new (λ row f i h. f i (subst (λ (n : ℕ). n ≤ i) taken.next h)) rows c.requires.open.fit) taken.fits);
      apart = subst A (sym c.in_ok-push.ensures.items) (apart_behind R g.met.P.Ord.total rows r c.requires.open.apart c.requires.other);
    }

pub returns-clause-same : goal.returns-clause-same
returns-clause-same g c o p q =
    let R = g.P.Ord.cmp in
    let S = g.Q.Ord.cmp in
    let old = c.args.self.now.store in
    let new = c.take_row-row.new.store in
    let rows = c.args.self.now.rows.items in
    let path = c.args.self.now.path in
    let r : HeldRow g.row.P.Denot g.row.V.Denot = record { piece = c.args.piece; row = c.take_row-row.result } in
    let taken = c.take_row-row.ensures in
    let T : List ℕ → Type 0 = λ at. ((q : g.row.Q.Denot) → row_answer S new c.take_row-row.result q ≡ kept R S old at c.args.piece q)
    × ((o : List ℕ) (p : g.row.P.Denot) (q : g.row.Q.Denot) → kept R S new o p q ≡ put_piece R at c.args.piece (λ s. None) (kept R S old) o p q) in
    let there = subst T c.as_str.ensures (taken.taken, taken.left) in
    ap (λ (all : List (HeldRow g.row.P.Denot g.row.V.Denot)). with_rows R S new path all o p q) c.in_ok-push.ensures.items
    ∙ held_behind R S g.met.P.Ord.total old new path r (taken_back R S g.met.P.Ord.total old new path c.args.piece c.take_row-row.result there.0 there.1)
    (λ row q. answers_as S new old taken.numbers (taken.sound.empty ∙ sym c.requires.open.sound.empty) row q) rows o p q
