use Rattle.std.proofs.Common.{rules, ◌≡◌, ◌∙◌, sym, refl, false}
use Rattle.std.specs.Prelude.{Option, None}
use Rattle.std.specs.BTreeMap.{is_at}
use Rattle.std.specs.Cmp.Lexicographic.{slice_cmp, nat_list_cmp_total}
use Rattle.std.specs.Ordering.{nat_cmp}
use Rattle.std.specs.String.{string_cmp, string_bytes}
use Rattle.std.proofs.lemmas.Map.Text.{text_cmp}
use Rattle.piece_store.specs.declared.table.Table.{Table}
use Rattle.piece_store.specs.Slots.{turned}
use Rattle.piece_store.specs.Views.{held, table_slot}
use Rattle.piece_store.proofs.Sweeps.{retained, key_apart}
use Rattle.piece_store.proofs.shelf.Shelf.turn.Goals as goal

pub returns : goal.returns
returns g c o p i =
    retained string_cmp _ (is_at (text_cmp o)) (λ x y. key_apart (slice_cmp nat_cmp) nat_list_cmp_total o (string_bytes x) (string_bytes y)) (λ (t : Option (Table g.row.P.Denot g.row.V.Denot)). table_slot g.P.Ord.cmp t p i) (λ (t : Option (Table g.row.P.Denot g.row.V.Denot)). turned (table_slot g.P.Ord.cmp t p i)) refl _ (λ k v b w f' t.
    let here : held g.P.Ord.cmp w p i ≡ turned (held g.P.Ord.cmp v p i) = search rules in
    let left : b ≡ false → held g.P.Ord.cmp w p i ≡ None = search rules in
    (λ _ _. here, λ _ e. sym (left e) ∙ here, search rules))
    c.args.self.now.tables.entries _ c.retain.ensures.was_ordered c.retain.ensures.filtered
