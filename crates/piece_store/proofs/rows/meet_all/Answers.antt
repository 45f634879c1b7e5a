use Rattle.std.proofs.Common.{rules, ◌≡◌, refl, true, false}
use Rattle.std.specs.Prelude.{Option}
use Rattle.std.specs.BTreeMap.{is_at}
use Rattle.piece_store.specs.declared.row.Row.{Row}
use Rattle.piece_store.specs.Slots.{slot, row_slot, met_as}
use Rattle.piece_store.proofs.Sweeps.{retained, key_apart}
use Rattle.piece_store.proofs.rows.meet_all.Goals as goal

pub returns : goal.returns
returns g c p i =
    retained g.P.Ord.cmp _ (is_at (g.P.Ord.cmp p)) (λ x y. key_apart g.P.Ord.cmp g.met.P.Ord.total p x y) (λ (o : Option (Row g.row.V.Denot)). row_slot o i) (λ (o : Option (Row g.row.V.Denot)). met_as c.args.met (row_slot o i)) refl _ (λ k v b w f' t.
    let here : slot w i ≡ met_as c.args.met (slot v i) = search rules in
    let yes : b ≡ true = search rules in
    (λ _ _. here, λ _ no. absurd (let both : b ≡ false = no in cc), search rules))
    c.args.rows.now.entries _ c.retain.ensures.was_ordered c.retain.ensures.filtered
