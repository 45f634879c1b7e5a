-- What cells build is read from them.
use Rattle.std.proofs.Common.{◌≡◌, ◌⊎◌, inl, inr, ℕ, zero, suc, ◌+◌, ◌≤◌, ◌<◌, true, false, eqb, List, [], ◌∷◌, ◌++◌, length, Option, Some, refl, sym, ap, ◌∙◌, subst, arith, append_assoc, length-append}
use Rattle.std.specs.Option.{option_and_then}
use Rattle.std.specs.Prelude.{nat_le}
use Rattle.yaml_cells.specs.declared.cell.Cell.{Cell}
use Rattle.yaml_cells.specs.declared.cell.Cell.TheVariants.{Dash, Key, Scalar, Open, Close, Comma}
use Rattle.yaml_cells.specs.declared.value.YValue.{YValue}
use Rattle.yaml_cells.specs.declared.value.YValue.TheVariants.{Null, Seq, Map}
use Rattle.yaml_cells.specs.Cells.{is_item}
use Rattle.yaml_read.specs.Keys.{is_distinct}
use Rattle.yaml_read.specs.Building.{Built, items_at, entries_at, flow_at, after_item, node_at, below_key, as_seq, as_map, steps, sequence_at, mapping_at}
use Rattle.yaml_read.specs.Builds.{Building, Items, Entries, IsItem, Bracketed, BuildsBy, nothing, scalar, flow, sequence, mapping, Builds}
use Rattle.yaml_read.proofs.Sound.{anywhere, eqb-same}

leb-true : (a b : ℕ) → a ≤ b → nat_le a b ≡ true
leb-true a b h = grind arith

leb-false : (a b : ℕ) → b < a → nat_le a b ≡ false
leb-false a b h = grind arith

eqb-false : (a b : ℕ) → a < b → eqb a b ≡ false
eqb-false a b h = grind arith

-- no cell at the column or deeper comes first
abbrev pub Stops : ℕ → List Cell → Type 0
Stops least [] = Unit {0}
Stops least (Dash c ∷ ts) = c < least
Stops least (Key c k ∷ ts) = c < least
Stops least (Scalar c v ∷ ts) = c < least
Stops least (Open c ∷ ts) = c < least
Stops least (Close ∷ ts) = Unit {0}
Stops least (Comma ∷ ts) = Unit {0}

-- the same behind a block sequence: another cell than a mark may stand at the column
abbrev pub EndsMarks : ℕ → List Cell → Type 0
EndsMarks least [] = Unit {0}
EndsMarks least (Dash c ∷ ts) = c < least
EndsMarks least (Key c k ∷ ts) = c < least + 1
EndsMarks least (Scalar c v ∷ ts) = c < least + 1
EndsMarks least (Open c ∷ ts) = c < least + 1
EndsMarks least (Close ∷ ts) = Unit {0}
EndsMarks least (Comma ∷ ts) = Unit {0}

-- what may follow cells that build a value
abbrev pub Behind : ℕ → List Cell → List Cell → Type 0
Behind least [] rest = Stops least rest
Behind least (Dash c ∷ ts) rest = EndsMarks least rest
Behind least (Key c k ∷ ts) rest = Stops least rest
Behind least (Scalar c v ∷ ts) rest = Stops least rest
Behind least (Open c ∷ ts) rest = Stops least rest
Behind least (Close ∷ ts) rest = Stops least rest
Behind least (Comma ∷ ts) rest = Stops least rest

stops_more : (least other : ℕ) (rest : List Cell) → least ≤ other → Stops least rest → Stops other rest
stops_more least other [] h s = tt
stops_more least other (Dash c ∷ ts) h s = omega arith
stops_more least other (Key c k ∷ ts) h s = omega arith
stops_more least other (Scalar c v ∷ ts) h s = omega arith
stops_more least other (Open c ∷ ts) h s = omega arith
stops_more least other (Close ∷ ts) h s = tt
stops_more least other (Comma ∷ ts) h s = tt

ends_more : (least other : ℕ) (rest : List Cell) → least ≤ other → EndsMarks least rest → EndsMarks other rest
ends_more least other [] h s = tt
ends_more least other (Dash c ∷ ts) h s = omega arith
ends_more least other (Key c k ∷ ts) h s = omega arith
ends_more least other (Scalar c v ∷ ts) h s = omega arith
ends_more least other (Open c ∷ ts) h s = omega arith
ends_more least other (Close ∷ ts) h s = tt
ends_more least other (Comma ∷ ts) h s = tt

stops_ends : (least : ℕ) (rest : List Cell) → Stops least rest → EndsMarks least rest
stops_ends least [] s = tt
stops_ends least (Dash c ∷ ts) s = s
stops_ends least (Key c k ∷ ts) s = omega arith
stops_ends least (Scalar c v ∷ ts) s = omega arith
stops_ends least (Open c ∷ ts) s = omega arith
stops_ends least (Close ∷ ts) s = tt
stops_ends least (Comma ∷ ts) s = tt

ends_stops : (least : ℕ) (rest : List Cell) → EndsMarks least rest → Stops (least + 1) rest
ends_stops least [] s = tt
ends_stops least (Dash c ∷ ts) s = omega arith
ends_stops least (Key c k ∷ ts) s = s
ends_stops least (Scalar c v ∷ ts) s = s
ends_stops least (Open c ∷ ts) s = s
ends_stops least (Close ∷ ts) s = tt
ends_stops least (Comma ∷ ts) s = tt

behind_all : (least : ℕ) (ts rest : List Cell) → Stops least rest → Behind least ts rest
behind_all least [] rest s = s
behind_all least (Dash c ∷ ts) rest s = stops_ends least rest s
behind_all least (Key c k ∷ ts) rest s = s
behind_all least (Scalar c v ∷ ts) rest s = s
behind_all least (Open c ∷ ts) rest s = s
behind_all least (Close ∷ ts) rest s = s
behind_all least (Comma ∷ ts) rest s = s

-- nothing is read where no cell stands deep enough
null_read : (room least : ℕ) (rest : List Cell) → Stops least rest → node_at (suc room) least rest ≡ Some (Null, rest)
null_read room least [] s = refl
null_read room least (Dash c ∷ ts) s = rw (leb-false least c s) refl
null_read room least (Key c k ∷ ts) s = rw (leb-false least c s) refl
null_read room least (Scalar c v ∷ ts) s = rw (leb-false least c s) refl
null_read room least (Open c ∷ ts) s = rw (leb-false least c s) refl
null_read room least (Close ∷ ts) s = refl
null_read room least (Comma ∷ ts) s = refl

-- what builds a value is read as that value, whatever may follow
abbrev pub IsRead : Building → (ℕ → List Cell → Option Built) → Type 0
IsRead Q node = (least : ℕ) (ts : List Cell) (v : YValue) (rest : List Cell) → Q least ts v → Behind least ts rest → node least (ts ++ rest) ≡ Some (v, rest)

module _ (Q : Building) (node : ℕ → List Cell → Option Built) (h : IsRead Q node) (column : ℕ) where
  items_len : (ts : List Cell) (vs : List YValue) → Items Q column ts vs → length vs ≤ length ts
  items_len ts [] i = omega arith
  items_len ts (v ∷ vs) (inside, rest, e, q, m) = omega (arith, ap length e, length-append inside rest, items_len rest vs m)

  items_end : (n : ℕ) (rest : List Cell) → EndsMarks column rest → items_at (node (column + 1)) n column rest ≡ Some ([], rest)
  items_end zero rest s = refl
  items_end (suc n) [] s = refl
  items_end (suc n) (Dash c ∷ ts) s = rw (eqb-false c column s) refl
  items_end (suc n) (Key c k ∷ ts) s = refl
  items_end (suc n) (Scalar c v ∷ ts) s = refl
  items_end (suc n) (Open c ∷ ts) s = refl
  items_end (suc n) (Close ∷ ts) s = refl
  items_end (suc n) (Comma ∷ ts) s = refl

  items_next : (ts rest : List Cell) (vs : List YValue) → Items Q column ts vs → EndsMarks column rest → Stops (column + 1) (ts ++ rest)
  items_next ts rest [] e s = let P : List Cell → Type 0 = λ x. Stops (column + 1) (x ++ rest) in subst P (sym e) (ends_stops column rest s)
  items_next ts rest (v ∷ vs) (inside, more, e, q, m) s = let P : List Cell → Type 0 = λ x. Stops (column + 1) (x ++ rest) in subst P (sym e) (omega arith)

  item_read : (n : ℕ) (ts inside more rest : List Cell) (v : YValue) (vs : List YValue) → ts ≡ Dash column ∷ (inside ++ more) → node (column + 1) (inside ++ (more ++ rest)) ≡ Some (v, more ++ rest) → items_at (node (column + 1)) n column (more ++ rest) ≡ Some (vs, rest) → items_at (node (column + 1)) (suc n) column (ts ++ rest) ≡ Some (v ∷ vs, rest)
  item_read n ts inside more rest v vs e f g = rw (e, append_assoc inside more rest, eqb-same column, f, g) refl

  pub items_read : (n : ℕ) (ts rest : List Cell) (vs : List YValue) → Items Q column ts vs → length vs ≤ n → EndsMarks column rest → items_at (node (column + 1)) n column (ts ++ rest) ≡ Some (vs, rest)
  items_read n ts rest [] e l s = ap (λ (x : List Cell). items_at (node (column + 1)) n column (x ++ rest)) e ∙ items_end n rest s
  items_read zero ts rest (v ∷ vs) i l s = absurd (omega arith)
  items_read (suc n) ts rest (v ∷ vs) (inside, more, e, q, m) l s =
      item_read n ts inside more rest v vs e (h (column + 1) inside v (more ++ rest) q (behind_all (column + 1) inside (more ++ rest) (items_next more rest vs m s))) (items_read n more rest vs m (omega arith) s)

module _ (Q : Building) (node : ℕ → List Cell → Option Built) (h : IsRead Q node) (anywhere : (least other : ℕ) (v : YValue) → Q least [] v → Q other [] v) (column : ℕ) where
  entries_len : (ts : List Cell) (es : List (List ℕ × YValue)) → Entries Q column ts es → length es ≤ length ts
  entries_len ts [] i = omega arith
  entries_len ts (x ∷ es) (inside, rest, e, q, m) = omega (arith, ap length e, length-append inside rest, entries_len rest es m)

  entries_end : (n : ℕ) (rest : List Cell) → Stops column rest → entries_at node (suc n) column rest ≡ Some ([], rest)
  entries_end n [] s = refl
  entries_end n (Dash c ∷ ts) s = refl
  entries_end n (Key c k ∷ ts) s = rw (eqb-false c column s) refl
  entries_end n (Scalar c v ∷ ts) s = refl
  entries_end n (Open c ∷ ts) s = refl
  entries_end n (Close ∷ ts) s = refl
  entries_end n (Comma ∷ ts) s = refl

  -- what may stand behind the value of a key
  abbrev Next : List Cell → Type 0
  Next rest = Stops (below_key column rest) rest × EndsMarks column rest × Stops (column + 1) rest

  next_of : (rest : List Cell) → Stops column rest → Next rest
  next_of [] s = (tt, tt, tt)
  next_of (Dash c ∷ ts) s = (s, s, omega arith)
  next_of (Key c k ∷ ts) s = (omega arith, omega arith, omega arith)
  next_of (Scalar c v ∷ ts) s = (omega arith, omega arith, omega arith)
  next_of (Open c ∷ ts) s = (omega arith, omega arith, omega arith)
  next_of (Close ∷ ts) s = (tt, tt, tt)
  next_of (Comma ∷ ts) s = (tt, tt, tt)

  key_next : (k : List ℕ) (ts : List Cell) → Next (Key column k ∷ ts)
  key_next k ts = (omega arith, omega arith, omega arith)

  entries_next : (ts rest : List Cell) (es : List (List ℕ × YValue)) → Entries Q column ts es → Stops column rest → Next (ts ++ rest)
  entries_next ts rest [] e s = let P : List Cell → Type 0 = λ x. Next (x ++ rest) in subst P (sym e) (next_of rest s)
  entries_next ts rest (x ∷ es) (inside, more, e, q, m) s = let P : List Cell → Type 0 = λ y. Next (y ++ rest) in subst P (sym e) (key_next x.0 ((inside ++ more) ++ rest))

  held_read : (inside rest : List Cell) (v : YValue) → Q (below_key column inside) inside v → Next rest → node (below_key column (inside ++ rest)) (inside ++ rest) ≡ Some (v, rest)
  held_read [] rest v q s = h (below_key column rest) [] v rest (anywhere (column + 1) (below_key column rest) v q) s.0
  held_read (Dash c ∷ ts) rest v q s = h column (Dash c ∷ ts) v rest q s.1
  held_read (Key c k ∷ ts) rest v q s = h (column + 1) (Key c k ∷ ts) v rest q s.2
  held_read (Scalar c w ∷ ts) rest v q s = h (column + 1) (Scalar c w ∷ ts) v rest q s.2
  held_read (Open c ∷ ts) rest v q s = h (column + 1) (Open c ∷ ts) v rest q s.2
  held_read (Close ∷ ts) rest v q s = h (column + 1) (Close ∷ ts) v rest q s.2
  held_read (Comma ∷ ts) rest v q s = h (column + 1) (Comma ∷ ts) v rest q s.2

  entry_read : (n : ℕ) (ts inside more rest : List Cell) (e : List ℕ × YValue) (es : List (List ℕ × YValue)) → ts ≡ Key column e.0 ∷ (inside ++ more) → node (below_key column (inside ++ (more ++ rest))) (inside ++ (more ++ rest)) ≡ Some (e.1, more ++ rest) → entries_at node n column (more ++ rest) ≡ Some (es, rest) → entries_at node (suc n) column (ts ++ rest) ≡ Some (e ∷ es, rest)
  entry_read n ts inside more rest x es e f g = rw (e, append_assoc inside more rest, eqb-same column, f, g) refl

  pub entries_read : (n : ℕ) (ts rest : List Cell) (es : List (List ℕ × YValue)) → Entries Q column ts es → length es < n → Stops column rest → entries_at node n column (ts ++ rest) ≡ Some (es, rest)
  entries_read zero ts rest es i l s = absurd (omega arith)
  entries_read (suc n) ts rest [] e l s = ap (λ (x : List Cell). entries_at node (suc n) column (x ++ rest)) e ∙ entries_end n rest s
  entries_read (suc n) ts rest (x ∷ es) (inside, more, e, q, m) l s =
      entry_read n ts inside more rest x es e (held_read inside (more ++ rest) x.1 q (entries_next more rest es m s)) (entries_read n more rest es m (omega arith) s)

module _ (Q : Building) (node : ℕ → List Cell → Option Built) (h : IsRead Q node) where
  item_len : (xs : List Cell) → is_item xs ≡ true → 0 < length xs
  item_len [] i = absurd (cc)
  item_len (x ∷ xs) i = omega arith

  last_len : (ts inside rest : List Cell) (v : YValue) (vs : List YValue) → ts ≡ inside ++ rest → rest ≡ Close ∷ [] → vs ≡ [] → is_item inside ≡ true → length (v ∷ vs) < length ts
  last_len ts inside rest v vs e f g i = omega (arith, ap length e, length-append inside rest, ap length f, ap length g, item_len inside i)

  brackets_len : (ts : List Cell) (vs : List YValue) → Bracketed Q ts vs → length vs < length ts
  brackets_len ts [] e = omega (arith, ap length e)
  brackets_len ts (v ∷ vs) (inside, rest, e, q, inl (f, g)) = last_len ts inside rest v vs e f g q.0
  brackets_len ts (v ∷ vs) (inside, rest, e, q, inr (more, f, m)) = omega (arith, ap length e, length-append inside rest, ap length f, brackets_len more vs m)

  -- behind an item
  abbrev Rest : List Cell → List YValue → Type 0
  Rest rest vs = ((rest ≡ Close ∷ []) × (vs ≡ [])) ⊎ ((more : List Cell) × (rest ≡ Comma ∷ more) × Bracketed Q more vs)

  rest_stops : (least : ℕ) (rest last : List Cell) (vs : List YValue) → Rest rest vs → Stops least (rest ++ last)
  rest_stops least rest last vs (inl (f, g)) = let P : List Cell → Type 0 = λ x. Stops least (x ++ last) in subst P (sym f) tt
  rest_stops least rest last vs (inr (more, f, m)) = let P : List Cell → Type 0 = λ x. Stops least (x ++ last) in subst P (sym f) tt

  -- an item is read, and then what follows
  item_by : (n : ℕ) (inside rest last : List Cell) (v : YValue) → is_item inside ≡ true → node 0 (inside ++ (rest ++ last)) ≡ Some (v, rest ++ last) → flow_at (node 0) (suc n) ((inside ++ rest) ++ last) ≡ after_item (flow_at (node 0) n) (v, rest ++ last)
  item_by n [] rest last v i f = absurd (cc)
  item_by n (Dash c ∷ xs) rest last v i f = absurd (cc)
  item_by n (Key c k ∷ xs) rest last v i f = absurd (cc)
  item_by n (Scalar c w ∷ xs) rest last v i f = rw (append_assoc xs rest last, f) refl
  item_by n (Open c ∷ xs) rest last v i f = rw (append_assoc xs rest last, f) refl
  item_by n (Close ∷ xs) rest last v i f = absurd (cc)
  item_by n (Comma ∷ xs) rest last v i f = absurd (cc)

  closed_by : (n : ℕ) (rest last : List Cell) (v : YValue) (vs : List YValue) → 0 < n → rest ≡ Close ∷ [] → vs ≡ [] → after_item (flow_at (node 0) n) (v, rest ++ last) ≡ Some (v ∷ vs, last)
  closed_by zero rest last v vs h e f = absurd (omega arith)
  closed_by (suc n) rest last v vs h e f = rw (e, f) refl

  more_by : (n : ℕ) (rest more last : List Cell) (v : YValue) (vs : List YValue) → rest ≡ Comma ∷ more → flow_at (node 0) n (more ++ last) ≡ Some (vs, last) → after_item (flow_at (node 0) n) (v, rest ++ last) ≡ Some (v ∷ vs, last)
  more_by n rest more last v vs e f = rw (e, f) refl

  among_read : (n : ℕ) (ts inside rest last : List Cell) (v : YValue) (vs : List YValue) → ts ≡ inside ++ rest → IsItem Q inside v → Rest rest vs → flow_at (node 0) (suc n) (ts ++ last) ≡ after_item (flow_at (node 0) n) (v, rest ++ last)
  among_read n ts inside rest last v vs e q r =
      ap (λ (x : List Cell). flow_at (node 0) (suc n) (x ++ last)) e
      ∙ item_by n inside rest last v q.0 (h 0 inside v (rest ++ last) q.1 (behind_all 0 inside (rest ++ last) (rest_stops 0 rest last vs r)))

  pub flow_read : (n : ℕ) (ts last : List Cell) (vs : List YValue) → Bracketed Q ts vs → length vs < n → flow_at (node 0) n (ts ++ last) ≡ Some (vs, last)
  flow_read zero ts last vs b l = absurd (omega arith)
  flow_read (suc n) ts last [] e l = rw e refl
  flow_read (suc n) ts last (v ∷ vs) (inside, rest, e, q, inl r) l =
      among_read n ts inside rest last v vs e q (inl r) ∙ closed_by n rest last v vs (omega arith) r.0 r.1
  flow_read (suc n) ts last (v ∷ vs) (inside, rest, e, q, inr (more, f, m)) l =
      among_read n ts inside rest last v vs e q (inr (more, f, m)) ∙ more_by n rest more last v vs f (flow_read n more last vs m (omega arith))

-- which construct is read, by the first cell
dash_read : (room least c : ℕ) (ts xs rest : List Cell) → least ≤ c → ts ≡ Dash c ∷ xs → node_at (suc room) least (ts ++ rest) ≡ sequence_at (node_at room) c (ts ++ rest)
dash_read room least c ts xs rest h e = rw (e, leb-true least c h) refl

key_read : (room least c : ℕ) (k : List ℕ) (ts xs rest : List Cell) → least ≤ c → ts ≡ Key c k ∷ xs → node_at (suc room) least (ts ++ rest) ≡ mapping_at (node_at room) c (ts ++ rest)
key_read room least c k ts xs rest h e = rw (e, leb-true least c h) refl

scalar_read : (room least c : ℕ) (v : YValue) (ts rest : List Cell) → least ≤ c → ts ≡ Scalar c v ∷ [] → node_at (suc room) least (ts ++ rest) ≡ Some (v, rest)
scalar_read room least c v ts rest h e = rw (e, leb-true least c h) refl

open_read : (room least c : ℕ) (ts inside rest : List Cell) (vs : List YValue) → least ≤ c → ts ≡ Open c ∷ inside → flow_at (node_at room 0) (steps (inside ++ rest)) (inside ++ rest) ≡ Some (vs, rest) → node_at (suc room) least (ts ++ rest) ≡ Some (Seq vs, rest)
open_read room least c ts inside rest vs h e f = rw (e, leb-true least c h, f) refl

dash_ends : (least c : ℕ) (ts xs rest : List Cell) → least ≤ c → ts ≡ Dash c ∷ xs → Behind least ts rest → EndsMarks c rest
dash_ends least c ts xs rest h e b = let P : List Cell → Type 0 = λ x. Behind least x rest in ends_more least c rest h (subst P e b)

key_stops : (least c : ℕ) (k : List ℕ) (ts xs rest : List Cell) → least ≤ c → ts ≡ Key c k ∷ xs → Behind least ts rest → Stops c rest
key_stops least c k ts xs rest h e b = let P : List Cell → Type 0 = λ x. Behind least x rest in stops_more least c rest h (subst P e b)

null_stops : (least : ℕ) (ts rest : List Cell) → ts ≡ [] → Behind least ts rest → Stops least rest
null_stops least ts rest e b = let P : List Cell → Type 0 = λ x. Behind least x rest in subst P e b

as_distinct : (es : List (List ℕ × YValue)) (rest : List Cell) → is_distinct es ≡ true → as_map (es, rest) ≡ Some (Map es, rest)
as_distinct es rest d = rw d refl

longer : (n : ℕ) (ts rest : List Cell) → n ≤ length ts → n ≤ steps (ts ++ rest)
longer n ts rest h = omega (arith, length-append ts rest)

fewer : (n : ℕ) (ts rest : List Cell) → n ≤ length ts → n < steps (ts ++ rest)
fewer n ts rest h = omega (arith, length-append ts rest)

read_by : (room : ℕ) → IsRead (Builds room) (node_at room) → (least : ℕ) (ts : List Cell) (v : YValue) (rest : List Cell) → BuildsBy (Builds room) least ts v → Behind least ts rest → node_at (suc room) least (ts ++ rest) ≡ Some (v, rest)
read_by room r least ts v rest (nothing e n) b =
    ap (λ (x : List Cell). node_at (suc room) least (x ++ rest)) e ∙ null_read room least rest (null_stops least ts rest e b) ∙ ap (λ (x : YValue). Some (x, rest)) (sym n)
read_by room r least ts v rest (scalar c l e) b = scalar_read room least c v ts rest l e
read_by room r least ts v rest (flow c inside vs l e i n) b =
    open_read room least c ts inside rest vs l e (flow_read (Builds room) (node_at room) r (steps (inside ++ rest)) inside rest vs i (omega (arith, length-append inside rest, brackets_len (Builds room) (node_at room) r inside vs i)))
    ∙ ap (λ (x : YValue). Some (x, rest)) (sym n)
read_by room r least ts v rest (sequence c w vs l (inside, more, e, q, m) n) b =
    dash_read room least c ts (inside ++ more) rest l e
    ∙ ap as_seq (items_read (Builds room) (node_at room) r c (steps (ts ++ rest)) ts rest (w ∷ vs) (inside, more, e, q, m) (longer (length (w ∷ vs)) ts rest (items_len (Builds room) (node_at room) r c ts (w ∷ vs) (inside, more, e, q, m))) (dash_ends least c ts (inside ++ more) rest l e b))
    ∙ ap (λ (x : YValue). Some (x, rest)) (sym n)
read_by room r least ts v rest (mapping c x es l (inside, more, e, q, m) d n) b =
    key_read room least c x.0 ts (inside ++ more) rest l e
    ∙ ap (option_and_then as_map) (entries_read (Builds room) (node_at room) r (anywhere room) c (steps (ts ++ rest)) ts rest (x ∷ es) (inside, more, e, q, m) (fewer (length (x ∷ es)) ts rest (entries_len (Builds room) (node_at room) r (anywhere room) c ts (x ∷ es) (inside, more, e, q, m))) (key_stops least c x.0 ts (inside ++ more) rest l e b))
    ∙ as_distinct (x ∷ es) rest d ∙ ap (λ (y : YValue). Some (y, rest)) (sym n)

-- what cells build is read from them, whatever may follow
pub node_read : (room : ℕ) → IsRead (Builds room) (node_at room)
node_read zero least ts v rest b s = absurd b
node_read (suc room) least ts v rest b s = read_by room (node_read room) least ts v rest b s
