-- Which value cells build. A text's cells are its marks, keys, brackets, commas and scalars, each but `]` and `,` with its column.
use Rattle.std.specs.Prelude.{◌≡◌, ◌⊎◌, ℕ, zero, suc, ◌+◌, ◌≤◌, List, [], ◌∷◌, ◌++◌, true}
use Rattle.yaml_cells.specs.declared.cell.Cell.{Cell}
use Rattle.yaml_cells.specs.declared.cell.Cell.TheVariants.{Dash, Key, Scalar, Open, Close, Comma}
use Rattle.yaml_cells.specs.declared.value.YValue.{YValue}
use Rattle.yaml_cells.specs.declared.value.YValue.TheVariants.{Null, Seq, Map}
use Rattle.yaml_cells.specs.Cells.{is_item}
use Rattle.yaml_read.specs.Keys.{is_distinct}
use Rattle.yaml_read.specs.Building.{below_key}

-- which cells build a value at a column or deeper
abbrev pub Building : Type 1
Building = ℕ → List Cell → YValue → Type 0

-- a block sequence's items: each has its mark at the column, and its value deeper
abbrev pub Items : Building → ℕ → List Cell → List YValue → Type 0
Items node column ts [] = ts ≡ []
Items node column ts (v ∷ vs) =
    (inside rest : List Cell) × (ts ≡ Dash column ∷ (inside ++ rest)) × node (column + 1) inside v × Items node column rest vs

-- a block mapping's entries: each has its key at the column, and its value deeper, or a block sequence at the key's own column
abbrev pub Entries : Building → ℕ → List Cell → List (List ℕ × YValue) → Type 0
Entries node column ts [] = ts ≡ []
Entries node column ts (e ∷ es) =
    (inside rest : List Cell) × (ts ≡ Key column e.0 ∷ (inside ++ rest)) × node (below_key column inside) inside e.1 × Entries node column rest es

-- an item of a flow sequence: a scalar or a flow sequence
abbrev pub IsItem : Building → List Cell → YValue → Type 0
IsItem node ts v = (is_item ts ≡ true) × node 0 ts v

-- a flow sequence past its `[`: items with commas between them, maybe one behind the last, and `]`
abbrev pub Bracketed : Building → List Cell → List YValue → Type 0
Bracketed node ts [] = ts ≡ Close ∷ []
Bracketed node ts (v ∷ vs) =
    (inside rest : List Cell) × (ts ≡ inside ++ rest) × IsItem node inside v
    × (((rest ≡ Close ∷ []) × (vs ≡ [])) ⊎ ((more : List Cell) × (rest ≡ Comma ∷ more) × Bracketed node more vs))

-- the cells build the value at a column or deeper, where `node` says it of the values in it
pub data BuildsBy (node : Building) (least : ℕ) (ts : List Cell) (v : YValue) : Type 0 where
  -- nothing is Null
  nothing : ts ≡ [] → v ≡ Null → BuildsBy node least ts v
  -- a scalar
  scalar : (column : ℕ) → least ≤ column → ts ≡ Scalar column v ∷ [] → BuildsBy node least ts v
  -- a flow sequence
  flow : (column : ℕ) (inside : List Cell) (vs : List YValue) → least ≤ column → ts ≡ Open column ∷ inside → Bracketed node inside vs → v ≡ Seq vs → BuildsBy node least ts v
  -- a block sequence of at least one item
  sequence : (column : ℕ) (w : YValue) (vs : List YValue) → least ≤ column → Items node column ts (w ∷ vs) → v ≡ Seq (w ∷ vs) → BuildsBy node least ts v
  -- a block mapping of at least one entry, each key once
  mapping : (column : ℕ) (e : List ℕ × YValue) (es : List (List ℕ × YValue)) → least ≤ column → Entries node column ts (e ∷ es) → is_distinct (e ∷ es) ≡ true → v ≡ Map (e ∷ es) → BuildsBy node least ts v

-- the cells build the value at a column or deeper, in at most so many levels: Null and a scalar are one level, and a sequence or mapping is one more than its deepest value
abbrev pub Builds : ℕ → Building
Builds zero least ts v = ⊥
Builds (suc room) least ts v = BuildsBy (Builds room) least ts v
