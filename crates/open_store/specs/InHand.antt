-- A store of which some rows of one path are in hand.
use Rattle.std.specs.Prelude.{◌≡◌, ℕ, List, [], ◌∷◌, Bool, Option}
use Rattle.std.specs.declared.cmp.Ordering.{Ordering}
use Rattle.std.specs.declared.cmp.Ordering.TheVariants.{Equal}
use Rattle.piece_store.specs.declared.store.Store.{Store}
use Rattle.piece_store.specs.Kept.{kept, put_piece, row_answer, IsSound, IsRowOf}
use Rattle.open_store.specs.declared.held.HeldRow.{HeldRow}
use Rattle.open_store.specs.declared.held.OpenStore.{OpenStore}

-- what is kept for a path, a piece and a pattern: each row in hand stands for what is kept of its piece at the path, and the store
-- for all else. R compares pieces, and S patterns
abbrev pub with_rows : {P Q V : Type 0} → (P → P → Ordering) → (Q → Q → Ordering) → Store P Q V → List ℕ → List (HeldRow P V) → List ℕ → P → Q → Option (V × Bool)
with_rows R S store path [] = kept R S store
with_rows R S store path (r ∷ rs) = put_piece R path r.piece (row_answer S store r.row) (with_rows R S store path rs)

abbrev pub held : {P Q V : Type 0} → (P → P → Ordering) → (Q → Q → Ordering) → OpenStore P Q V → List ℕ → P → Q → Option (V × Bool)
held R S s = with_rows R S s.store s.path s.rows.items

-- none of the rows is one of the piece
abbrev pub HasNone : {P V : Type 0} → (P → P → Ordering) → List (HeldRow P V) → P → Type 0
HasNone R [] piece = Unit {0}
HasNone R (r ∷ rs) piece = (R r.piece piece ≡ Equal → ⊥) × HasNone R rs piece

-- no two rows are of one piece
abbrev pub AreApart : {P V : Type 0} → (P → P → Ordering) → List (HeldRow P V) → Type 0
AreApart R [] = Unit {0}
AreApart R (r ∷ rs) = HasNone R rs r.piece × AreApart R rs

-- each is a row of the store
abbrev pub AreRowsOf : {P Q V : Type 0} → Store P Q V → List (HeldRow P V) → Type 0
AreRowsOf store [] = Unit {0}
AreRowsOf store (r ∷ rs) = IsRowOf store r.row × AreRowsOf store rs

-- the store is sound, and the rows in hand are rows of it, of which no two are of one piece
pub record IsOpen {P Q V : Type 0} (R : P → P → Ordering) (S : Q → Q → Ordering) (nothing : V) (s : OpenStore P Q V) : Type 0 where
  pub sound : IsSound R S nothing s.store
  pub fit : AreRowsOf s.store s.rows.items
  pub apart : AreApart R s.rows.items
