-- What is kept of one path, and of all, as functions from keys.
use Rattle.std.specs.Prelude.{ℕ, Option, None, Some, Bool, true, false, ◌&&◌, cond, nat_eq, List}
use Rattle.std.specs.declared.cmp.Ordering.{Ordering}
use Rattle.std.specs.Ordering.{is_eq}
use Rattle.std.specs.BTreeMap.{get_by_text}
use Rattle.std.specs.Str.{bytes_eq}
use Rattle.piece_store.specs.declared.table.Met.{Met}
use Rattle.piece_store.specs.declared.table.Met.TheVariants as now
use Rattle.piece_store.specs.declared.table.Table.{Table}
use Rattle.piece_store.specs.declared.shelf.Shelf.{Shelf}
use Rattle.piece_store.specs.Slots.{met_as, in_rows}

-- as a table says what was met: nothing, all that it keeps, or what the rows say
abbrev pub met_by : {X : Type 0} → Met → Option (X × Bool) → Option (X × Bool)
met_by now.Nothing k = met_as false k
met_by now.All k = met_as true k
met_by now.Each k = k

-- what a table has for a piece and a pattern's number; R compares pieces
abbrev pub held : {P V : Type 0} → (P → P → Ordering) → Table P V → P → ℕ → Option (Option V × Bool)
held R table p i = met_by table.met (in_rows R table.rows p i)

-- what the shelf has for a path, a piece and a pattern's number
abbrev pub table_slot : {P V : Type 0} → (P → P → Ordering) → Option (Table P V) → P → ℕ → Option (Option V × Bool)
table_slot R None p i = None
table_slot R (Some table) p i = held R table p i

abbrev pub at : {P V : Type 0} → (P → P → Ordering) → Shelf P V → List ℕ → P → ℕ → Option (Option V × Bool)
at R shelf path p i = table_slot R (get_by_text shelf.tables path) p i

-- a function that is changed at one path, piece and number
abbrev pub put_there : {P X : Type 0} → (P → P → Ordering) → List ℕ → P → ℕ → X → (List ℕ → P → ℕ → X) → List ℕ → P → ℕ → X
put_there R path p i x f o q j = cond (bytes_eq path o && (is_eq (R p q) && nat_eq i j)) x (f o q j)

-- a function that is changed at one path and piece, whatever the number
abbrev pub put_rows : {P X : Type 0} → (P → P → Ordering) → List ℕ → P → (ℕ → X) → (List ℕ → P → ℕ → X) → List ℕ → P → ℕ → X
put_rows R path p g f o q j = cond (bytes_eq path o && is_eq (R p q)) (g j) (f o q j)
