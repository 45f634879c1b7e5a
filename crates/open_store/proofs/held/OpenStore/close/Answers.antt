use Rattle.std.proofs.Common.{◌≡◌, ◌≤◌, ◌∙◌, ℕ, List, sym, ap, subst}
use Rattle.piece_store.specs.Kept.{kept, put_piece, row_answer}
use Rattle.open_store.specs.InHand.{with_rows, AreApart, AreRowsOf}
use Rattle.open_store.specs.declared.held.HeldRow.{HeldRow}
use Rattle.open_store.proofs.Rows.{fit_before, fit_as, apart_before, held_behind, answers_as}
use Rattle.open_store.proofs.held.OpenStore.close.Goals as goal

pub give-requires-clause-fits : goal.give-requires-clause-fits
give-requires-clause-fits g c =
    let (sound, apart, fit, same) = c.loop-last.invariant in
    let F : List (HeldRow g.row.P.Denot g.row.V.Denot) → Type 0 = λ rows. AreRowsOf c.loop-last.store rows in
    (fit_before c.loop-last.store c.pop.new.self.items c.in-Some.last (subst F c.in-Some.ensures.items fit)).1

pub loop-last-preserved : goal.loop-last-preserved
loop-last-preserved g c =
    let R = g.P.Ord.cmp in
    let S = g.Q.Ord.cmp in
    let (sound, apart, fit, same) = c.loop-last.invariant in
    let old = c.loop-last.store in
    let new = c.give.new.self in
    let rows = c.pop.new.self.items in
    let last = c.in-Some.last in
    let given = c.in_ok-give.ensures in
    let path = c.args.self.path in
    let F : List (HeldRow g.row.P.Denot g.row.V.Denot) → Type 0 = λ rows. AreRowsOf old rows in
    let A : List (HeldRow g.row.P.Denot g.row.V.Denot) → Type 0 = λ rows. AreApart R rows in
    let before = fit_before old rows last (subst F c.in-Some.ensures.items fit) in
    let T : List ℕ → Type 0 = λ at. (o : List ℕ) (p : g.row.P.Denot) (q : g.row.Q.Denot) → kept R S new o p q ≡ put_piece R at last.piece (row_answer S old last.row) (kept R S old) o p q in
    let there = subst T c.as_str.ensures given.ok in (
      given.sound,
      apart_before R g.met.P.Ord.total rows last (subst A c.in-Some.ensures.items apart),
      fit_as old new (λ row f i h. f i (subst (λ (n : ℕ). n ≤ i) given.next h)) rows before.0,
      λ o p q.
          sym (held_behind R S g.met.P.Ord.total new old path last (λ o p q. sym (there o p q)) (λ row q. answers_as S old new (sym given.numbers) (sound.empty ∙ sym given.sound.empty) row q) rows o p q)
          ∙ ap (λ (all : List (HeldRow g.row.P.Denot g.row.V.Denot)). with_rows R S old path all o p q) (sym c.in-Some.ensures.items)
          ∙ same o p q,
    )
