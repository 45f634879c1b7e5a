-- The value at the start of some cells, read from the left.
use Rattle.std.specs.Prelude.{◌≡◌, ℕ, zero, suc, ◌+◌, List, [], ◌∷◌, if◌then◌else◌, Bool, true, false, Option, Some, None, Result, Ok, Err, length}
use Rattle.std.specs.Option.{option_map, option_and_then}
use Rattle.yaml_lines.specs.declared.fault.YFault.{YFault}
use Rattle.yaml_lines.specs.declared.fault.YFault.TheVariants.{Memory, NoValue}
use Rattle.yaml_cells.specs.declared.cell.Cell.{Cell}
use Rattle.yaml_cells.specs.declared.cell.Cell.TheVariants.{Dash}
use Rattle.yaml_cells.specs.declared.cell.First.{First}
use Rattle.yaml_cells.specs.declared.cell.First.TheVariants as firsts
use Rattle.yaml_cells.specs.declared.value.YValue.{YValue}
use Rattle.yaml_cells.specs.declared.value.YValue.TheVariants.{Null, Seq, Map}
use Rattle.yaml_cells.specs.Cells.{first_of, cells_past, is_dash, is_close, is_comma, is_item, key_at, scalar_at, Keyed}
use Rattle.yaml_read.specs.Keys.{is_distinct}

-- a value, and the cells behind it
abbrev pub Built : Type 0
Built = YValue × List Cell

-- some values, and the cells behind them
abbrev pub AllBuilt : Type 0
AllBuilt = List YValue × List Cell

-- some entries, and the cells behind them
abbrev pub EntriesBuilt : Type 0
EntriesBuilt = List (List ℕ × YValue) × List Cell

-- a value before those that are read behind it
abbrev pub with_item : (List Cell → Option AllBuilt) → Built → Option AllBuilt
with_item more b = option_map (λ r. (b.0 ∷ r.0, r.1)) (more b.1)

-- an entry before those that are read behind it
abbrev pub with_entry : (List Cell → Option EntriesBuilt) → List ℕ → Built → Option EntriesBuilt
with_entry more key b = option_map (λ r. ((key, b.0) ∷ r.0, r.1)) (more b.1)

-- the items of a block sequence whose marks stand at a column, at most so many
abbrev pub items_at : (List Cell → Option Built) → ℕ → ℕ → List Cell → Option AllBuilt
items_at node zero column ts = Some ([], ts)
items_at node (suc n) column ts =
    if is_dash column ts then option_and_then (with_item (items_at node n column)) (node (cells_past ts)) else Some ([], ts)

-- the least column of a value below a key: a block sequence may stand at the key's own column
abbrev pub below_key : ℕ → List Cell → ℕ
below_key column (Dash c ∷ ts) = column
below_key column ts = column + 1

-- the entries that begin with a key, if one was found, where `more` reads those behind an entry
abbrev pub entry_at : (ℕ → List Cell → Option Built) → (List Cell → Option EntriesBuilt) → ℕ → List Cell → Option Keyed → Option EntriesBuilt
entry_at node more column ts None = Some ([], ts)
entry_at node more column ts (Some k) = option_and_then (with_entry more k.key) (node (below_key column k.rest) k.rest)

-- the entries of a block mapping whose keys stand at a column, at most so many
abbrev pub entries_at : (ℕ → List Cell → Option Built) → ℕ → ℕ → List Cell → Option EntriesBuilt
entries_at node zero column ts = None
entries_at node (suc n) column ts = entry_at node (entries_at node n column) column ts (key_at column ts)

-- an item of a flow sequence
abbrev pub flow_item : (List Cell → Option Built) → List Cell → Option Built
flow_item node ts = if is_item ts then node ts else None

-- the cells of a flow sequence behind an item: past a comma, or from the closing bracket on
abbrev pub go_on : List Cell → Option (List Cell)
go_on ts = if is_comma ts then Some (cells_past ts) else (if is_close ts then Some ts else None)

-- the items of a flow sequence after one of them
abbrev pub after_item : (List Cell → Option AllBuilt) → Built → Option AllBuilt
after_item more b = option_and_then (λ rest. option_map (λ r. (b.0 ∷ r.0, r.1)) (more rest)) (go_on b.1)

-- the items of a flow sequence, and its closing bracket, in so many steps
abbrev pub flow_at : (List Cell → Option Built) → ℕ → List Cell → Option AllBuilt
flow_at node zero ts = None
flow_at node (suc n) ts = if is_close ts then Some ([], cells_past ts) else option_and_then (after_item (flow_at node n)) (flow_item node ts)

-- a sequence
abbrev pub as_seq : Option AllBuilt → Option Built
as_seq r = option_map (λ b. (Seq b.0, b.1)) r

-- a mapping, if each key stands once
abbrev pub as_map : EntriesBuilt → Option Built
as_map b = if is_distinct b.0 then Some (Map b.0, b.1) else None

-- more steps than cells
abbrev pub steps : List Cell → ℕ
steps ts = suc (length ts)

-- a block sequence whose marks stand at a column
abbrev pub sequence_at : (ℕ → List Cell → Option Built) → ℕ → List Cell → Option Built
sequence_at node column ts = as_seq (items_at (node (column + 1)) (steps ts) column ts)

-- a block mapping whose keys stand at a column
abbrev pub mapping_at : (ℕ → List Cell → Option Built) → ℕ → List Cell → Option Built
mapping_at node column ts = option_and_then as_map (entries_at node (steps ts) column ts)

-- a flow sequence past its opening bracket
abbrev pub bracketed_at : (ℕ → List Cell → Option Built) → List Cell → Option Built
bracketed_at node ts = as_seq (flow_at (node 0) (steps ts) ts)

-- the value that begins with this cell
abbrev pub node_from : (ℕ → List Cell → Option Built) → List Cell → First → Option Built
node_from node ts firsts.Nothing = Some (Null, ts)
node_from node ts (firsts.Dash column) = sequence_at node column ts
node_from node ts (firsts.Key column) = mapping_at node column ts
node_from node ts firsts.Scalar = scalar_at ts
node_from node ts firsts.Open = bracketed_at node (cells_past ts)
node_from node ts firsts.Close = Some (Null, ts)
node_from node ts firsts.Comma = Some (Null, ts)

-- the value at the start of some cells that stands at a column or deeper, with so many levels at most
abbrev pub node_at : ℕ → ℕ → List Cell → Option Built
node_at zero least ts = None
node_at (suc room) least ts = node_from (node_at room) ts (first_of least ts)

-- what was built is this, but for want of memory; the cells behind it are left
abbrev pub Leaves : {X : Type 0} → Option (X × List Cell) → Result X YFault → List Cell → Type 0
Leaves wanted (Ok x) rest = wanted ≡ Some (x, rest)
Leaves wanted (Err Memory) rest = Unit {0}
Leaves wanted (Err e) rest = (e ≡ NoValue) × (wanted ≡ None)

-- it is the mapping with these entries, if each key stands once, but for want of memory
abbrev pub IsMapping : List (List ℕ × YValue) → Result YValue YFault → Type 0
IsMapping es (Ok v) = (rest : List Cell) → as_map (es, rest) ≡ Some (v, rest)
IsMapping es (Err Memory) = Unit {0}
IsMapping es (Err e) = (e ≡ NoValue) × ((rest : List Cell) → as_map (es, rest) ≡ None)

-- it went on behind an item of a flow sequence, if it could
abbrev pub WentOn : List Cell → Bool → List Cell → Type 0
WentOn old true new = go_on old ≡ Some new
WentOn old false new = go_on old ≡ None
