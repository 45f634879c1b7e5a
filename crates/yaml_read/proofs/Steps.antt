-- One step of each loop.
use Rattle.std.proofs.Common.{◌≡◌, ◌≢◌, reverse, Result, Ok, Err, ℕ, zero, suc, ◌+◌, ◌-◌, ◌<◌, ◌≤◌, true, false, List, [], ◌∷◌, ◌++◌, length, Option, Some, None, refl, sym, ap, ◌∙◌, arith, append_assoc}
use Rattle.std.proofs.lemmas.List.{length-reverse}
use Rattle.yaml_lines.specs.declared.fault.YFault.{YFault}
use Rattle.yaml_lines.specs.declared.fault.YFault.TheVariants.{Memory, NotUtf8, OutsideProfile, NoValue}
use Rattle.yaml_cells.specs.declared.cell.First.TheVariants as firsts
use Rattle.yaml_cells.specs.declared.value.YValue.TheVariants.{Seq}
use Rattle.std.specs.Option.{option_map, option_and_then}
use Rattle.yaml_cells.specs.declared.cell.Cell.{Cell}
use Rattle.yaml_cells.specs.declared.value.YValue.{YValue}
use Rattle.yaml_cells.specs.Cells.{first_of, scalar_at, is_dash, is_close, is_item, key_at, cells_past}
use Rattle.yaml_read.specs.Building.{Built, AllBuilt, EntriesBuilt, items_at, entries_at, flow_at, below_key, go_on, steps, as_seq, as_map, node_at, node_from, sequence_at, mapping_at, bracketed_at, Leaves, IsMapping}

-- items before those that are read behind them
abbrev pub with_items : List YValue → Option AllBuilt → Option AllBuilt
with_items vs r = option_map (λ (b : AllBuilt). (vs ++ b.0, b.1)) r

-- entries before those that are read behind them
abbrev pub with_entries : List (List ℕ × YValue) → Option EntriesBuilt → Option EntriesBuilt
with_entries es r = option_map (λ (b : EntriesBuilt). (es ++ b.0, b.1)) r

pub with_items-push : (vs : List YValue) (v : YValue) (r : Option AllBuilt) → with_items vs (option_map (λ (b : AllBuilt). (v ∷ b.0, b.1)) r) ≡ with_items (vs ++ (v ∷ [])) r
with_items-push vs v None = refl
with_items-push vs v (Some b) = ap (λ (x : List YValue). Some (x, b.1)) (sym (append_assoc vs (v ∷ []) b.0))

pub with_entries-push : (es : List (List ℕ × YValue)) (e : List ℕ × YValue) (r : Option EntriesBuilt) → with_entries es (option_map (λ (b : EntriesBuilt). (e ∷ b.0, b.1)) r) ≡ with_entries (es ++ (e ∷ [])) r
with_entries-push es e None = refl
with_entries-push es e (Some b) = ap (λ (x : List (List ℕ × YValue)). Some (x, b.1)) (sym (append_assoc es (e ∷ []) b.0))

-- the steps left, as one more than after this one
pub less : (n turn : ℕ) → turn < n → n - turn ≡ suc (n - (turn + 1))
less n turn h = omega arith

pub items_done : (node : List Cell → Option Built) (n column : ℕ) (ts : List Cell) → is_dash column ts ≡ false → items_at node n column ts ≡ Some ([], ts)
items_done node zero column ts e = refl
items_done node (suc n) column ts e = rw e refl

-- an item is read
pub items_turn : (node : List Cell → Option Built) (n turn column : ℕ) (ts rest new : List Cell) (vs : List YValue) (v : YValue) → turn < n → is_dash column ts ≡ true → rest ≡ cells_past ts → node rest ≡ Some (v, new) → with_items vs (items_at node (n - turn) column ts) ≡ with_items (vs ++ (v ∷ [])) (items_at node (n - (turn + 1)) column new)
items_turn node n turn column ts rest new vs v h d p e = rw (less n turn h, d, ← p, e) (with_items-push vs v (items_at node (n - (turn + 1)) column new))

-- an item can't be read
pub items_none : (node : List Cell → Option Built) (n turn column : ℕ) (ts rest : List Cell) (vs : List YValue) → turn < n → is_dash column ts ≡ true → rest ≡ cells_past ts → node rest ≡ None → with_items vs (items_at node (n - turn) column ts) ≡ None
items_none node n turn column ts rest vs h d p e = rw (less n turn h, d, ← p, e) refl

pub entries_done : (node : ℕ → List Cell → Option Built) (n turn column : ℕ) (ts : List Cell) → turn < n → key_at column ts ≡ None → entries_at node (n - turn) column ts ≡ Some ([], ts)
entries_done node n turn column ts h e = rw (less n turn h, e) refl

-- an entry is read
pub entries_turn : (node : ℕ → List Cell → Option Built) (n turn column : ℕ) (ts rest new : List Cell) (es : List (List ℕ × YValue)) (k : List ℕ) (v : YValue) → turn < n → key_at column ts ≡ Some (record { key = k; rest = rest }) → node (below_key column rest) rest ≡ Some (v, new) → with_entries es (entries_at node (n - turn) column ts) ≡ with_entries (es ++ ((k, v) ∷ [])) (entries_at node (n - (turn + 1)) column new)
entries_turn node n turn column ts rest new es k v h d e = rw (less n turn h, d, e) (with_entries-push es (k, v) (entries_at node (n - (turn + 1)) column new))

-- an entry can't be read
pub entries_none : (node : ℕ → List Cell → Option Built) (n turn column : ℕ) (ts rest : List Cell) (es : List (List ℕ × YValue)) (k : List ℕ) → turn < n → key_at column ts ≡ Some (record { key = k; rest = rest }) → node (below_key column rest) rest ≡ None → with_entries es (entries_at node (n - turn) column ts) ≡ None
entries_none node n turn column ts rest es k h d e = rw (less n turn h, d, e) refl

-- a flow sequence ends
pub flow_done : (node : List Cell → Option Built) (n turn : ℕ) (ts : List Cell) (vs : List YValue) → turn < n → is_close ts ≡ true → with_items vs (flow_at node (n - turn) ts) ≡ with_items vs (Some ([], cells_past ts))
flow_done node n turn ts vs h d = rw (less n turn h, d) refl

-- no item stands where one must
pub flow_none : (node : List Cell → Option Built) (n turn : ℕ) (ts : List Cell) (vs : List YValue) → turn < n → is_close ts ≡ false → is_item ts ≡ false → with_items vs (flow_at node (n - turn) ts) ≡ None
flow_none node n turn ts vs h d i = rw (less n turn h, d, i) refl

-- an item of a flow sequence can't be read
pub flow_bad : (node : List Cell → Option Built) (n turn : ℕ) (ts : List Cell) (vs : List YValue) → turn < n → is_close ts ≡ false → is_item ts ≡ true → node ts ≡ None → with_items vs (flow_at node (n - turn) ts) ≡ None
flow_bad node n turn ts vs h d i e = rw (less n turn h, d, i, e) refl

-- an item of a flow sequence is read, and it goes on
pub flow_turn : (node : List Cell → Option Built) (n turn : ℕ) (ts new rest : List Cell) (vs : List YValue) (v : YValue) → turn < n → is_close ts ≡ false → is_item ts ≡ true → node ts ≡ Some (v, new) → go_on new ≡ Some rest → with_items vs (flow_at node (n - turn) ts) ≡ with_items (vs ++ (v ∷ [])) (flow_at node (n - (turn + 1)) rest)
flow_turn node n turn ts new rest vs v h d i e m = rw (less n turn h, d, i, e, m) (with_items-push vs v (flow_at node (n - (turn + 1)) rest))

-- nothing that may follow an item does
pub flow_broken : (node : List Cell → Option Built) (n turn : ℕ) (ts new : List Cell) (vs : List YValue) (v : YValue) → turn < n → is_close ts ≡ false → is_item ts ≡ true → node ts ≡ Some (v, new) → go_on new ≡ None → with_items vs (flow_at node (n - turn) ts) ≡ None
flow_broken node n turn ts new vs v h d i e m = rw (less n turn h, d, i, e, m) refl

minus_zero : (n : ℕ) → n - 0 ≡ n
minus_zero n = omega arith

minus_one : (n : ℕ) → suc n - 1 ≡ n
minus_one n = omega arith

items_before : (vs : List YValue) (r : Option AllBuilt) → vs ≡ [] → r ≡ with_items vs r
items_before vs None e = refl
items_before vs (Some b) e = ap (λ (x : List YValue). Some (x ++ b.0, b.1)) (sym e)

entries_before : (es : List (List ℕ × YValue)) (r : Option EntriesBuilt) → es ≡ [] → r ≡ with_entries es r
entries_before es None e = refl
entries_before es (Some b) e = ap (λ (x : List (List ℕ × YValue)). Some (x ++ b.0, b.1)) (sym e)

pub items_begin : (node : List Cell → Option Built) (n column : ℕ) (ts : List Cell) (vs : List YValue) → vs ≡ [] → items_at node n column ts ≡ with_items vs (items_at node (n - 0) column ts)
items_begin node n column ts vs e = rw (minus_zero n) (items_before vs (items_at node n column ts) e)

pub entries_begin : (node : ℕ → List Cell → Option Built) (n column : ℕ) (ts : List Cell) (es : List (List ℕ × YValue)) → es ≡ [] → entries_at node n column ts ≡ with_entries es (entries_at node (n - 0) column ts)
entries_begin node n column ts es e = rw (minus_zero n) (entries_before es (entries_at node n column ts) e)

pub flow_begin : (node : List Cell → Option Built) (n : ℕ) (ts : List Cell) (vs : List YValue) → vs ≡ [] → flow_at node n ts ≡ with_items vs (flow_at node (n - 0) ts)
flow_begin node n ts vs e = rw (minus_zero n) (items_before vs (flow_at node n ts) e)

pub steps_is : (cells : List Cell) (n : ℕ) → n ≡ length cells → suc n ≡ steps (reverse cells)
steps_is cells n e = ap suc (e ∙ sym (length-reverse cells))

append_nil : {X : Type 0} (xs : List X) → xs ++ [] ≡ xs
append_nil [] = refl
append_nil (x ∷ xs) = ap (λ z. x ∷ z) (append_nil xs)

-- a block sequence ends
pub sequence_done : (node : ℕ → List Cell → Option Built) (m turn column : ℕ) (all ts : List Cell) (vs : List YValue) → suc m ≡ steps all → items_at (node (column + 1)) (suc m) column all ≡ with_items vs (items_at (node (column + 1)) (suc m - turn) column ts) → is_dash column ts ≡ false → sequence_at node column all ≡ Some (Seq vs, ts)
sequence_done node m turn column all ts vs h i d =
    ap (λ (n : ℕ). as_seq (items_at (node (column + 1)) n column all)) (sym h)
    ∙ ap as_seq (i ∙ ap (with_items vs) (items_done (node (column + 1)) (suc m - turn) column ts d))
    ∙ ap (λ (x : List YValue). Some (Seq x, ts)) (append_nil vs)

-- a block mapping ends
mapping_done : (node : ℕ → List Cell → Option Built) (m turn column : ℕ) (all ts : List Cell) (es : List (List ℕ × YValue)) → suc m ≡ steps all → entries_at node (suc m) column all ≡ with_entries es (entries_at node (suc m - turn) column ts) → turn ≤ m → key_at column ts ≡ None → mapping_at node column all ≡ as_map (es, ts)
mapping_done node m turn column all ts es h i l d =
    ap (λ (n : ℕ). option_and_then as_map (entries_at node n column all)) (sym h)
    ∙ ap (option_and_then as_map) (i ∙ ap (with_entries es) (entries_done node (suc m) turn column ts (omega arith) d))
    ∙ ap (λ (x : List (List ℕ × YValue)). as_map (x, ts)) (append_nil es)

pub mapping_gives : (node : ℕ → List Cell → Option Built) (m turn column : ℕ) (all ts new : List Cell) (es : List (List ℕ × YValue)) (r : Result YValue YFault) → suc m ≡ steps all → entries_at node (suc m) column all ≡ with_entries es (entries_at node (suc m - turn) column ts) → turn ≤ m → key_at column ts ≡ None → new ≡ ts → IsMapping es r → Leaves (mapping_at node column all) r new
mapping_gives node m turn column all ts new es (Ok v) h i l d n is = mapping_done node m turn column all ts es h i l d ∙ is ts ∙ ap (λ (x : List Cell). Some (v, x)) (sym n)
mapping_gives node m turn column all ts new es (Err Memory) h i l d n is = tt
mapping_gives node m turn column all ts new es (Err NotUtf8) h i l d n is = (is.0, mapping_done node m turn column all ts es h i l d ∙ is.1 ts)
mapping_gives node m turn column all ts new es (Err (OutsideProfile f k)) h i l d n is = (is.0, mapping_done node m turn column all ts es h i l d ∙ is.1 ts)
mapping_gives node m turn column all ts new es (Err NoValue) h i l d n is = (is.0, mapping_done node m turn column all ts es h i l d ∙ is.1 ts)

-- a value of a block mapping can't be read
mapping_none : (node : ℕ → List Cell → Option Built) (m turn column : ℕ) (all ts rest : List Cell) (es : List (List ℕ × YValue)) (k : List ℕ) (least : ℕ) → suc m ≡ steps all → entries_at node (suc m) column all ≡ with_entries es (entries_at node (suc m - turn) column ts) → turn ≤ m → key_at column ts ≡ Some (record { key = k; rest = rest }) → least ≡ below_key column rest → node least rest ≡ None → mapping_at node column all ≡ None
mapping_none node m turn column all ts rest es k least h i l d b e =
    ap (λ (n : ℕ). option_and_then as_map (entries_at node n column all)) (sym h)
    ∙ ap (option_and_then as_map) (i ∙ entries_none node (suc m) turn column ts rest es k (omega arith) d (ap (λ (x : ℕ). node x rest) (sym b) ∙ e))

abbrev pub fault : YFault → Result YValue YFault
fault e = Err e

pub mapping_bad : (node : ℕ → List Cell → Option Built) (m turn column : ℕ) (all ts rest new : List Cell) (es : List (List ℕ × YValue)) (k : List ℕ) (least : ℕ) (e : YFault) → suc m ≡ steps all → entries_at node (suc m) column all ≡ with_entries es (entries_at node (suc m - turn) column ts) → turn ≤ m → key_at column ts ≡ Some (record { key = k; rest = rest }) → least ≡ below_key column rest → Leaves (node least rest) (fault e) new → Leaves (mapping_at node column all) (fault e) new
mapping_bad node m turn column all ts rest new es k least Memory h i l d b is = tt
mapping_bad node m turn column all ts rest new es k least NotUtf8 h i l d b is = (is.0, mapping_none node m turn column all ts rest es k least h i l d b is.1)
mapping_bad node m turn column all ts rest new es k least (OutsideProfile f n) h i l d b is = (is.0, mapping_none node m turn column all ts rest es k least h i l d b is.1)
mapping_bad node m turn column all ts rest new es k least NoValue h i l d b is = (is.0, mapping_none node m turn column all ts rest es k least h i l d b is.1)

-- a flow sequence ends
pub bracketed_done : (node : ℕ → List Cell → Option Built) (m turn : ℕ) (all ts new : List Cell) (vs : List YValue) → suc m ≡ steps all → flow_at (node 0) (suc m) all ≡ with_items vs (flow_at (node 0) (suc m - turn) ts) → turn ≤ m → is_close ts ≡ true → new ≡ cells_past ts → bracketed_at node all ≡ Some (Seq vs, new)
bracketed_done node m turn all ts new vs h i l d p =
    ap (λ (n : ℕ). as_seq (flow_at (node 0) n all)) (sym h) ∙ ap as_seq (i ∙ flow_done (node 0) (suc m) turn ts vs (omega arith) d)
    ∙ ap (λ (x : List YValue). Some (Seq x, cells_past ts)) (append_nil vs) ∙ ap (λ (x : List Cell). Some (Seq vs, x)) (sym p)

-- a flow sequence is broken off
pub bracketed_broken : (node : ℕ → List Cell → Option Built) (m turn : ℕ) (all ts new : List Cell) (vs : List YValue) (v : YValue) → suc m ≡ steps all → flow_at (node 0) (suc m) all ≡ with_items vs (flow_at (node 0) (suc m - turn) ts) → turn ≤ m → is_close ts ≡ false → is_item ts ≡ true → node 0 ts ≡ Some (v, new) → go_on new ≡ None → bracketed_at node all ≡ None
bracketed_broken node m turn all ts new vs v h i l d t e g =
    ap (λ (n : ℕ). as_seq (flow_at (node 0) n all)) (sym h) ∙ ap as_seq (i ∙ flow_broken (node 0) (suc m) turn ts new vs v (omega arith) d t e g)

-- which construct begins with the first cell
pub node_dash : (room least column : ℕ) (ts : List Cell) → room ≢ 0 → firsts.Dash column ≡ first_of least ts → node_at room least ts ≡ sequence_at (node_at (room - 1)) column ts
node_dash zero least column ts h f = absurd (h refl)
node_dash (suc room) least column ts h f = ap (node_from (node_at room) ts) (sym f) ∙ ap (λ (n : ℕ). sequence_at (node_at n) column ts) (sym (minus_one room))

pub node_key : (room least column : ℕ) (ts : List Cell) → room ≢ 0 → firsts.Key column ≡ first_of least ts → node_at room least ts ≡ mapping_at (node_at (room - 1)) column ts
node_key zero least column ts h f = absurd (h refl)
node_key (suc room) least column ts h f = ap (node_from (node_at room) ts) (sym f) ∙ ap (λ (n : ℕ). mapping_at (node_at n) column ts) (sym (minus_one room))

pub node_scalar : (room least : ℕ) (ts : List Cell) → room ≢ 0 → firsts.Scalar ≡ first_of least ts → node_at room least ts ≡ scalar_at ts
node_scalar zero least ts h f = absurd (h refl)
node_scalar (suc room) least ts h f = ap (node_from (node_at room) ts) (sym f)

pub node_open : (room least : ℕ) (ts rest : List Cell) → room ≢ 0 → firsts.Open ≡ first_of least ts → rest ≡ cells_past ts → node_at room least ts ≡ bracketed_at (node_at (room - 1)) rest
node_open zero least ts rest h f p = absurd (h refl)
node_open (suc room) least ts rest h f p = ap (node_from (node_at room) ts) (sym f) ∙ ap (bracketed_at (node_at room)) (sym p) ∙ ap (λ (n : ℕ). bracketed_at (node_at n) rest) (sym (minus_one room))
