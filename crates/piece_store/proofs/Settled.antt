-- A table whose rows say what was met.
use Rattle.std.proofs.Common.{◌≡◌, ℕ, sym, ap, ◌∙◌, Bool, cond, nat_eq}
use Rattle.std.specs.Prelude.{Option, ◌&&◌}
use Rattle.std.specs.declared.cmp.Ordering.{Ordering}
use Rattle.std.specs.Ordering.{is_eq}
use Rattle.std.specs.BTreeMap.{BTreeMap}
use Rattle.piece_store.specs.declared.row.Row.{Row}
use Rattle.piece_store.specs.declared.table.Met.{Met}
use Rattle.piece_store.specs.declared.table.Met.TheVariants as now
use Rattle.piece_store.specs.declared.table.Table.{Table}
use Rattle.piece_store.specs.Slots.{in_rows, put_for, put_row}
use Rattle.piece_store.specs.Views.{met_by, held}

module _ {P V : Type 0} (R : P → P → Ordering) (old mid : Table P V) (same : (p : P) (i : ℕ) → held R mid p i ≡ held R old p i) (each : mid.met ≡ now.Each) where
  pub settled : (p : P) (i : ℕ) → in_rows R mid.rows p i ≡ held R old p i
  settled p i = sym (ap (λ (m : Met). met_by m (in_rows R mid.rows p i)) each) ∙ same p i

  module _ (new : BTreeMap P (Row V)) where
    seen : (p : P) (i : ℕ) → held R (record { rows = new; met = mid.met }) p i ≡ in_rows R new p i
    seen p i = ap (λ (m : Met). met_by m (in_rows R new p i)) each

    pub kept_in : ((p : P) (i : ℕ) → in_rows R new p i ≡ in_rows R mid.rows p i) → (p : P) (i : ℕ) → held R (record { rows = new; met = mid.met }) p i ≡ held R old p i
    kept_in stays p i = seen p i ∙ stays p i ∙ settled p i

    pub put_in : (piece : P) (n : ℕ) (x y : Option (Option V × Bool)) → x ≡ y → ((p : P) (i : ℕ) → in_rows R new p i ≡ put_for R piece n x (in_rows R mid.rows) p i)
        → (p : P) (i : ℕ) → held R (record { rows = new; met = mid.met }) p i ≡ put_for R piece n y (held R old) p i
    put_in piece n x y e puts p i =
        seen p i ∙ puts p i ∙ ap (λ (z : Option (Option V × Bool)). cond (is_eq (R piece p) && nat_eq n i) z (in_rows R mid.rows p i)) e
        ∙ ap (λ (z : Option (Option V × Bool)). cond (is_eq (R piece p) && nat_eq n i) y z) (settled p i)

    pub row_in : (piece : P) (f : ℕ → Option (Option V × Bool)) → ((p : P) (i : ℕ) → in_rows R new p i ≡ put_row R piece f (in_rows R mid.rows) p i)
        → (p : P) (i : ℕ) → held R (record { rows = new; met = mid.met }) p i ≡ put_row R piece f (held R old) p i
    row_in piece f puts p i = seen p i ∙ puts p i ∙ ap (λ (z : Option (Option V × Bool)). cond (is_eq (R piece p)) (f i) z) (settled p i)
