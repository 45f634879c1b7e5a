-- The kept pairs as a list: path by path, piece by piece, then by pattern.
use Rattle.std.specs.Prelude.{ℕ, Option, None, Some, Bool, ◌&&◌, cond, List, [], ◌∷◌, ◌++◌, map, unwrap_or, String}
use Rattle.std.specs.declared.cmp.Ordering.{Ordering}
use Rattle.std.specs.Ordering.{is_eq}
use Rattle.std.specs.Str.{bytes_eq}
use Rattle.std.specs.Borrow.{Bor}
use Rattle.std.specs.List.{flat_map}
use Rattle.std.specs.String.{string_bytes}
use Rattle.piece_store.specs.declared.row.Row.{Row}
use Rattle.piece_store.specs.declared.listing.RowPairs.{RowPairs}
use Rattle.piece_store.specs.declared.listing.TablePairs.{TablePairs}
use Rattle.piece_store.specs.declared.listing.Pair.{Pair}
use Rattle.piece_store.specs.declared.listing.Pairs.{Pairs}
use Rattle.piece_store.specs.declared.table.Table.{Table}
use Rattle.piece_store.specs.declared.store.Store.{Store}
use Rattle.piece_store.specs.Slots.{slot}

-- a pattern with what a row has for it, where that is kept; none within stands for the empty answer
abbrev pub with_slot : {Q V : Type 0} → V → Q → Option (Option V × Bool) → List (Q × V)
with_slot empty q None = []
with_slot empty q (Some k) = (q, unwrap_or k.0 empty) ∷ []

-- those of these patterns that are kept in a row, each with its answer
abbrev pub in_row : {Q V : Type 0} → V → Row V → List (Q × ℕ) → List (Q × V)
in_row empty row patterns = flat_map (λ p. with_slot empty p.0 (slot row p.1)) patterns

-- the same with the piece, of rows that stand by pieces
abbrev pub with_piece : {P Q V : Type 0} → P → List (Q × V) → List (P × Q × V)
with_piece p qs = map (λ q. (p, q.0, q.1)) qs

abbrev pub in_table : {P Q V : Type 0} → V → List (Q × ℕ) → List (P × Row V) → List (P × Q × V)
in_table empty patterns rows = flat_map (λ r. with_piece r.0 (in_row empty r.1 patterns)) rows

-- a path, a piece and a pattern, and what is kept for them
pub record KeptPair (P Q V : Type 0) : Type 0 where
  pub path : List ℕ
  pub piece : P
  pub pattern : Q
  pub answer : V

abbrev pub with_path : {P Q V : Type 0} → List ℕ → List (P × Q × V) → List (KeptPair P Q V)
with_path o ps = map (λ p. record { path = o; piece = p.0; pattern = p.1; answer = p.2 }) ps

abbrev pub in_tables : {P Q V Y : Type 0} → V → List (Q × ℕ) → List (String Y × Table P V) → List (KeptPair P Q V)
in_tables empty patterns tables = flat_map (λ t. with_path (string_bytes t.0) (in_table empty patterns t.1.rows.entries)) tables

-- the pairs of a store: by path, then by piece, then by pattern
abbrev pub pairs_of : {P Q V : Type 0} → Store P Q V → List (KeptPair P Q V)
pairs_of store = in_tables store.empty store.numbers.entries store.shelf.tables.entries

-- the answers that a list of pairs has for a path, a piece and a pattern; R compares pieces, and S patterns
abbrev pub answers_for : {P Q V : Type 0} → (P → P → Ordering) → (Q → Q → Ordering) → List ℕ → P → Q → List (KeptPair P Q V) → List V
answers_for R S path p q pairs = flat_map (λ x. cond (bytes_eq path x.path && (is_eq (R p x.piece) && is_eq (S q x.pattern))) (x.answer ∷ []) []) pairs

-- what is kept for a pair: one answer, or none
abbrev pub kept_alone : {V : Type 0} → Option (V × Bool) → List V
kept_alone None = []
kept_alone (Some k) = k.0 ∷ []

-- ---- what is left of them

abbrev pub row_left : {Q V : Type 0} → RowPairs Q V → List (Q × V)
row_left p = in_row p.empty.now p.row.now p.patterns

abbrev pub seen_in_row : {Q V : Type 0} → Bor Q × Bor V → Q × V
seen_in_row p = (p.0.now, p.1.now)

abbrev pub piece_left : {P Q V : Type 0} → Option (Bor P × RowPairs Q V) → List (P × Q × V)
piece_left None = []
piece_left (Some h) = with_piece h.0.now (row_left h.1)

abbrev pub table_left : {P Q V : Type 0} → TablePairs P Q V → List (P × Q × V)
table_left p = piece_left p.here ++ in_table p.empty.now p.patterns.now.entries p.rows

abbrev pub seen_in_table : {P Q V : Type 0} → Bor P × Bor Q × Bor V → P × Q × V
seen_in_table p = (p.0.now, p.1.now, p.2.now)

abbrev pub path_left : {P Q V : Type 0} → Option (Bor (List ℕ) × TablePairs P Q V) → List (KeptPair P Q V)
path_left None = []
path_left (Some h) = with_path h.0.now (table_left h.1)

abbrev pub pairs_left : {P Q V : Type 0} → Pairs P Q V → List (KeptPair P Q V)
pairs_left p = path_left p.here ++ in_tables p.empty.now p.patterns.now.entries p.tables

abbrev pub seen_pair : {P Q V : Type 0} → Pair P Q V → KeptPair P Q V
seen_pair p = record { path = p.path.now; piece = p.piece.now; pattern = p.pattern.now; answer = p.answer.now }
