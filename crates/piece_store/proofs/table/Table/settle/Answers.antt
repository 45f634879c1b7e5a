use Rattle.std.proofs.Common.{◌∙◌, sym, ap, Bool}
use Rattle.piece_store.specs.declared.table.Met.{Met}
use Rattle.piece_store.specs.Slots.{in_rows, met_as}
use Rattle.piece_store.specs.Views.{met_by}
use Rattle.piece_store.proofs.table.Table.settle.Goals as goal
use Rattle.piece_store.proofs.table.Table.settle.Goals.{in-Nothing, in-All}

pub returns-clause-same : goal.returns-clause-same
returns-clause-same g c p i =
    let before = in_rows g.P.Ord.cmp c.args.self.now.rows p i in
    elim c.match-self.branch [
      | in-Nothing w ↦ c.meet_all.ensures p i ∙ ap (λ (b : Bool). met_as b before) w.met-is ∙ sym (ap (λ (m : Met). met_by m before) w.in-Nothing.is)
      | in-All w ↦ c.meet_all.ensures p i ∙ ap (λ (b : Bool). met_as b before) w.met-is ∙ sym (ap (λ (m : Met). met_by m before) w.in-All.is)
    ]
