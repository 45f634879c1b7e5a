-- What is kept of one piece, and of the pieces of one path, as functions from keys.
use Rattle.std.specs.Prelude.{ℕ, Option, None, Some, Bool, true, false, ◌&&◌, cond, nat_eq}
use Rattle.std.specs.declared.cmp.Ordering.{Ordering}
use Rattle.std.specs.Ordering.{nat_cmp, is_eq}
use Rattle.std.specs.BTreeMap.{BTreeMap, get}
use Rattle.piece_store.specs.declared.row.Row.{Row}
use Rattle.piece_store.specs.Bits.{has_kept, has_met}

-- what a row has for a pattern's number: the answer, None for the empty one, and whether it was met in this turn
abbrev pub slot : {V : Type 0} → Row V → ℕ → Option (Option V × Bool)
slot row i = cond (has_kept row.words.items i) (Some (get nat_cmp row.full i, has_met row.words.items i)) None

-- a function that is changed at one number
abbrev pub put_at : {X : Type 0} → ℕ → X → (ℕ → X) → ℕ → X
put_at at x f i = cond (nat_eq at i) x (f i)

-- met or not, where it is kept
abbrev pub met_as : {X : Type 0} → Bool → Option (X × Bool) → Option (X × Bool)
met_as met None = None
met_as met (Some k) = Some (k.0, met)

-- met now, where it is kept
abbrev pub marked : {X : Type 0} → Option (X × Bool) → Option (X × Bool)
marked k = met_as true k

-- what a turn leaves: what was met, which isn't met any more
abbrev pub turned : {X : Type 0} → Option (X × Bool) → Option (X × Bool)
turned None = None
turned (Some k) = cond k.1 (Some (k.0, false)) None

abbrev pub row_slot : {V : Type 0} → Option (Row V) → ℕ → Option (Option V × Bool)
row_slot None i = None
row_slot (Some row) i = slot row i

-- what rows have for a piece and a pattern's number; R compares pieces
abbrev pub in_rows : {P V : Type 0} → (P → P → Ordering) → BTreeMap P (Row V) → P → ℕ → Option (Option V × Bool)
in_rows R rows p i = row_slot (get R rows p) i

-- a function that is changed at one piece and number
abbrev pub put_for : {P X : Type 0} → (P → P → Ordering) → P → ℕ → X → (P → ℕ → X) → P → ℕ → X
put_for R p i x f q j = cond (is_eq (R p q) && nat_eq i j) x (f q j)

-- a function that is changed at one piece, whatever the number
abbrev pub put_row : {P X : Type 0} → (P → P → Ordering) → P → (ℕ → X) → (P → ℕ → X) → P → ℕ → X
put_row R p g f q j = cond (is_eq (R p q)) (g j) (f q j)
