-- The rows of a path, of which one is put in.
use Rattle.std.proofs.Common.{◌≡◌, ℕ, refl, ap, ◌∙◌, Bool, true, false, cond, nat_eq}
use Rattle.std.specs.Prelude.{Option, Some, ◌&&◌}
use Rattle.std.specs.declared.cmp.Ordering.{Ordering}
use Rattle.std.specs.Ordering.{is_eq}
use Rattle.std.specs.Cmp.{IsTotalOrder}
use Rattle.std.specs.BTreeMap.{BTreeMap, get}
use Rattle.piece_store.specs.declared.row.Row.{Row}
use Rattle.piece_store.specs.Slots.{slot, row_slot, in_rows, put_at, put_for}
use Rattle.piece_store.proofs.ByNumber.{is_equal, same_found}

module _ {P V : Type 0} (R : P → P → Ordering) (total : IsTotalOrder R) (old new : BTreeMap P (Row V)) (piece : P) (w : Row V) (puts : (q : P) → get R new q ≡ cond (is_eq (R piece q)) (Some w) (get R old q)) where
  at_piece : (q : P) → is_eq (R piece q) ≡ true → get R old piece ≡ get R old q
  at_piece q e = same_found R total piece q (is_equal (R piece q) e) old.entries

  -- a row in which one number is put
  pub put_slots : (n : ℕ) (x : Option (Option V × Bool)) → ((i : ℕ) → slot w i ≡ put_at n x (in_rows R old piece) i) → (p : P) (i : ℕ) → in_rows R new p i ≡ put_for R piece n x (in_rows R old) p i
  put_slots n x slots p i = ap (λ (o : Option (Row V)). row_slot o i) (puts p) ∙ by (is_eq (R piece p)) refl
    where
      by : (b : Bool) → is_eq (R piece p) ≡ b → row_slot (cond b (Some w) (get R old p)) i ≡ cond (b && nat_eq n i) x (in_rows R old p i)
      by true e = slots i ∙ ap (λ (o : Option (Row V)). cond (nat_eq n i) x (row_slot o i)) (at_piece p e)
      by false e = refl

  -- a row that is as it was
  pub same_slots : ((i : ℕ) → slot w i ≡ in_rows R old piece i) → (p : P) (i : ℕ) → in_rows R new p i ≡ in_rows R old p i
  same_slots slots p i = ap (λ (o : Option (Row V)). row_slot o i) (puts p) ∙ by (is_eq (R piece p)) refl
    where
      by : (b : Bool) → is_eq (R piece p) ≡ b → row_slot (cond b (Some w) (get R old p)) i ≡ in_rows R old p i
      by true e = slots i ∙ ap (λ (o : Option (Row V)). row_slot o i) (at_piece p e)
      by false e = refl
