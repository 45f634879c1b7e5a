-- What is read from cells is built by them.
use Rattle.std.proofs.Common.{◌≡◌, inl, inr, ℕ, zero, suc, ◌+◌, ◌≤◌, ◌<◌, Bool, true, false, eqb, List, [], ◌∷◌, ◌++◌, length, Option, Some, None, refl, sym, ap, ◌∙◌, subst, arith, append_assoc, IfSome}
use Rattle.std.specs.Option.{option_map, option_and_then}
use Rattle.std.specs.Prelude.{cond, nat_le}
use Rattle.yaml_cells.specs.declared.cell.Cell.{Cell}
use Rattle.yaml_cells.specs.declared.cell.Cell.TheVariants.{Dash, Key, Scalar, Open, Close, Comma}
use Rattle.yaml_cells.specs.declared.value.YValue.{YValue}
use Rattle.yaml_cells.specs.declared.value.YValue.TheVariants.{Seq, Map}
use Rattle.yaml_cells.specs.Cells.{is_item}
use Rattle.yaml_read.specs.Keys.{is_distinct}
use Rattle.yaml_cells.specs.declared.cell.First.TheVariants as firsts
use Rattle.yaml_read.specs.Building.{node_from, entry_at, Built, AllBuilt, EntriesBuilt, items_at, entries_at, flow_at, with_item, with_entry, after_item, node_at, below_key, as_map, steps}
use Rattle.yaml_read.specs.Builds.{Building, Items, Entries, Bracketed, BuildsBy, nothing, scalar, flow, sequence, mapping, Builds}

bound : {A B : Type 0} (o : Option A) (f : A → Option B) (D : A → Type 0) (C : B → Type 0) → IfSome o D → ((a : A) → D a → IfSome (f a) C) → IfSome (option_and_then f o) C
bound None f D C h k = tt
bound (Some a) f D C h k = k a h

mapped : {A B : Type 0} (o : Option A) (f : A → B) (D : A → Type 0) (C : B → Type 0) → IfSome o D → ((a : A) → D a → C (f a)) → IfSome (option_map f o) C
mapped None f D C h k = tt
mapped (Some a) f D C h k = k a h

chosen : {B : Type 0} (C : B → Type 0) (b : Bool) (x y : Option B) → (b ≡ true → IfSome x C) → (b ≡ false → IfSome y C) → IfSome (cond b x y) C
chosen C true x y h k = h refl
chosen C false x y h k = k refl

mapped_same : {B : Type 0} (o : Option B) (C D : B → Type 0) → IfSome o C → ((b : B) → C b → D b) → IfSome o D
mapped_same None C D i k = tt
mapped_same (Some b) C D i k = k b i

-- some cells at the front of others build a value, and where an item of a flow sequence may stand anywhere, it is among them
abbrev pub Found : Building → ℕ → List Cell → Built → Type 0
Found Q least ts b = (inside : List Cell) × (ts ≡ inside ++ b.1) × Q least inside b.0 × (least ≡ 0 → is_item ts ≡ true → is_item inside ≡ true)

abbrev ItemsFound : Building → ℕ → List Cell → AllBuilt → Type 0
ItemsFound Q column ts r = (inside : List Cell) × (ts ≡ inside ++ r.1) × Items Q column inside r.0

-- and there is at least one
abbrev SomeItems : Building → ℕ → List Cell → AllBuilt → Type 0
SomeItems Q column ts r = (v : YValue) × (vs : List YValue) × (inside : List Cell) × (r.0 ≡ v ∷ vs) × (ts ≡ inside ++ r.1) × Items Q column inside (v ∷ vs)

regroup : (x : Cell) (ts inside more rest last : List Cell) → ts ≡ inside ++ rest → rest ≡ more ++ last → x ∷ ts ≡ (x ∷ (inside ++ more)) ++ last
regroup x ts inside more rest last e f =
    ap (λ (z : List Cell). x ∷ z) (e ∙ ap (λ (z : List Cell). inside ++ z) f ∙ sym (append_assoc inside more last))

abbrev EntriesFound : Building → ℕ → List Cell → EntriesBuilt → Type 0
EntriesFound Q column ts r = (inside : List Cell) × (ts ≡ inside ++ r.1) × Entries Q column inside r.0

-- and there is at least one
abbrev SomeEntries : Building → ℕ → List Cell → EntriesBuilt → Type 0
SomeEntries Q column ts r = (e : List ℕ × YValue) × (es : List (List ℕ × YValue)) × (inside : List Cell) × (r.0 ≡ e ∷ es) × (ts ≡ inside ++ r.1) × Entries Q column inside (e ∷ es)

abbrev BracketsFound : Building → List Cell → AllBuilt → Type 0
BracketsFound Q ts r = (inside : List Cell) × (ts ≡ inside ++ r.1) × Bracketed Q inside r.0

eqb-is : (a b : ℕ) → eqb a b ≡ true → a ≡ b
eqb-is a b e = grind arith

pub eqb-same : (a : ℕ) → eqb a a ≡ true
eqb-same a = grind arith

leb-is : (a b : ℕ) → nat_le a b ≡ true → a ≤ b
leb-is a b e = grind arith

leb-not : (a b : ℕ) → nat_le a b ≡ false → b < a
leb-not a b e = grind arith

module _ (Q : Building) (node : ℕ → List Cell → Option Built) (h : (least : ℕ) (ts : List Cell) → IfSome (node least ts) (Found Q least ts)) (column : ℕ) where
  pub first_item : (more : List Cell → Option AllBuilt) → ((ts : List Cell) → IfSome (more ts) (ItemsFound Q column ts)) → (ts : List Cell) → IfSome (option_and_then (with_item more) (node (column + 1) ts)) (SomeItems Q column (Dash column ∷ ts))
  first_item more m ts =
      bound (node (column + 1) ts) (with_item more) (Found Q (column + 1) ts) (SomeItems Q column (Dash column ∷ ts)) (h (column + 1) ts)
      (λ b d. mapped (more b.1) (λ (r : AllBuilt). (b.0 ∷ r.0, r.1)) (ItemsFound Q column b.1) (SomeItems Q column (Dash column ∷ ts)) (m b.1)
      (λ r k. (b.0, r.0, Dash column ∷ (d.0 ++ k.0), refl, regroup (Dash column) ts d.0 k.0 b.1 r.1 d.1 k.1, (d.0, k.0, refl, d.2, k.2))))

  items_less : (r : AllBuilt) (c : ℕ) (ts : List Cell) → c ≡ column → SomeItems Q column (Dash column ∷ ts) r → ItemsFound Q column (Dash c ∷ ts) r
  items_less r c ts e k =
      let P : List YValue → Type 0 = λ x. Items Q column k.2 x in
      (k.2, ap (λ (x : ℕ). Dash x ∷ ts) e ∙ k.4, subst P (sym k.3) k.5)

  pub items_sound : (n : ℕ) (ts : List Cell) → IfSome (items_at (node (column + 1)) n column ts) (ItemsFound Q column ts)
  items_sound zero ts = ([], refl, refl)
  items_sound (suc n) [] = ([], refl, refl)
  items_sound (suc n) (Dash c ∷ ts) =
      chosen (ItemsFound Q column (Dash c ∷ ts)) (eqb c column) (option_and_then (with_item (items_at (node (column + 1)) n column)) (node (column + 1) ts)) (Some ([], Dash c ∷ ts))
      (λ e. mapped_same (option_and_then (with_item (items_at (node (column + 1)) n column)) (node (column + 1) ts)) (SomeItems Q column (Dash column ∷ ts)) (ItemsFound Q column (Dash c ∷ ts)) (first_item (items_at (node (column + 1)) n column) (items_sound n) ts) (λ r k. items_less r c ts (eqb-is c column e) k))
      (λ e. ([], refl, refl))
  items_sound (suc n) (Key c k ∷ ts) = ([], refl, refl)
  items_sound (suc n) (Scalar c v ∷ ts) = ([], refl, refl)
  items_sound (suc n) (Open c ∷ ts) = ([], refl, refl)
  items_sound (suc n) (Close ∷ ts) = ([], refl, refl)
  items_sound (suc n) (Comma ∷ ts) = ([], refl, refl)

module _ (Q : Building) (node : ℕ → List Cell → Option Built) (h : (least : ℕ) (ts : List Cell) → IfSome (node least ts) (Found Q least ts)) (anywhere : (least other : ℕ) (v : YValue) → Q least [] v → Q other [] v) (column : ℕ) where
  place : (inside rest : List Cell) (v : YValue) → Q (below_key column (inside ++ rest)) inside v → Q (below_key column inside) inside v
  place [] rest v q = anywhere (below_key column rest) (column + 1) v q
  place (Dash c ∷ xs) rest v q = q
  place (Key c k ∷ xs) rest v q = q
  place (Scalar c w ∷ xs) rest v q = q
  place (Open c ∷ xs) rest v q = q
  place (Close ∷ xs) rest v q = q
  place (Comma ∷ xs) rest v q = q

  placed : (ts inside rest : List Cell) (v : YValue) → ts ≡ inside ++ rest → Q (below_key column ts) inside v → Q (below_key column inside) inside v
  placed ts inside rest v e q = let P : List Cell → Type 0 = λ x. Q (below_key column x) inside v in place inside rest v (subst P e q)

  pub first_entry : (more : List Cell → Option EntriesBuilt) → ((ts : List Cell) → IfSome (more ts) (EntriesFound Q column ts)) → (k : List ℕ) (ts : List Cell) → IfSome (option_and_then (with_entry more k) (node (below_key column ts) ts)) (SomeEntries Q column (Key column k ∷ ts))
  first_entry more m k ts =
      bound (node (below_key column ts) ts) (with_entry more k) (Found Q (below_key column ts) ts) (SomeEntries Q column (Key column k ∷ ts)) (h (below_key column ts) ts)
      (λ b d. mapped (more b.1) (λ (r : EntriesBuilt). ((k, b.0) ∷ r.0, r.1)) (EntriesFound Q column b.1) (SomeEntries Q column (Key column k ∷ ts)) (m b.1)
      (λ r f. ((k, b.0), r.0, Key column k ∷ (d.0 ++ f.0), refl, regroup (Key column k) ts d.0 f.0 b.1 r.1 d.1 f.1, (d.0, f.0, refl, placed ts d.0 b.1 b.0 d.1 d.2, f.2))))

  entries_less : (r : EntriesBuilt) (c : ℕ) (k : List ℕ) (ts : List Cell) → c ≡ column → SomeEntries Q column (Key column k ∷ ts) r → EntriesFound Q column (Key c k ∷ ts) r
  entries_less r c k ts e f =
      let P : List (List ℕ × YValue) → Type 0 = λ x. Entries Q column f.2 x in
      (f.2, ap (λ (x : ℕ). Key x k ∷ ts) e ∙ f.4, subst P (sym f.3) f.5)

  by_key : (n c : ℕ) (k : List ℕ) (ts : List Cell) → ((xs : List Cell) → IfSome (entries_at node n column xs) (EntriesFound Q column xs)) → (b : Bool) → eqb c column ≡ b → IfSome (entry_at node (entries_at node n column) column (Key c k ∷ ts) (cond b (Some (record { key = k; rest = ts })) None)) (EntriesFound Q column (Key c k ∷ ts))
  by_key n c k ts m true e =
      mapped_same (option_and_then (with_entry (entries_at node n column) k) (node (below_key column ts) ts)) (SomeEntries Q column (Key column k ∷ ts)) (EntriesFound Q column (Key c k ∷ ts)) (first_entry (entries_at node n column) m k ts) (λ r f. entries_less r c k ts (eqb-is c column e) f)
  by_key n c k ts m false e = ([], refl, refl)

  pub entries_sound : (n : ℕ) (ts : List Cell) → IfSome (entries_at node n column ts) (EntriesFound Q column ts)
  entries_sound zero ts = tt
  entries_sound (suc n) [] = ([], refl, refl)
  entries_sound (suc n) (Dash c ∷ ts) = ([], refl, refl)
  entries_sound (suc n) (Key c k ∷ ts) = by_key n c k ts (entries_sound n) (eqb c column) refl
  entries_sound (suc n) (Scalar c v ∷ ts) = ([], refl, refl)
  entries_sound (suc n) (Open c ∷ ts) = ([], refl, refl)
  entries_sound (suc n) (Close ∷ ts) = ([], refl, refl)
  entries_sound (suc n) (Comma ∷ ts) = ([], refl, refl)

module _ (Q : Building) (node : ℕ → List Cell → Option Built) (h : (least : ℕ) (ts : List Cell) → IfSome (node least ts) (Found Q least ts)) where
  behind_comma : (ts inside more inner last : List Cell) → ts ≡ inside ++ (Comma ∷ more) → more ≡ inner ++ last → ts ≡ (inside ++ (Comma ∷ inner)) ++ last
  behind_comma ts inside more inner last e f =
      e ∙ ap (λ (z : List Cell). inside ++ (Comma ∷ z)) f ∙ sym (append_assoc inside (Comma ∷ inner) last)

  after : (n : ℕ) (ts : List Cell) → is_item ts ≡ true → ((xs : List Cell) → IfSome (flow_at (node 0) n xs) (BracketsFound Q xs)) → (v : YValue) (rest : List Cell) → Found Q 0 ts (v, rest) → IfSome (after_item (flow_at (node 0) n) (v, rest)) (BracketsFound Q ts)
  after n ts i m v [] d = tt
  after n ts i m v (Dash c ∷ more) d = tt
  after n ts i m v (Key c k ∷ more) d = tt
  after n ts i m v (Scalar c w ∷ more) d = tt
  after n ts i m v (Open c ∷ more) d = tt
  after zero ts i m v (Close ∷ more) d = tt
  after (suc n) ts i m v (Close ∷ more) d =
      (d.0 ++ (Close ∷ []), d.1 ∙ sym (append_assoc d.0 (Close ∷ []) more), (d.0, Close ∷ [], refl, (d.3 refl i, d.2), inl (refl, refl)))
  after n ts i m v (Comma ∷ more) d =
      mapped (flow_at (node 0) n more) (λ (r : AllBuilt). (v ∷ r.0, r.1)) (BracketsFound Q more) (BracketsFound Q ts) (m more)
      (λ r k. (d.0 ++ (Comma ∷ k.0), behind_comma ts d.0 more k.0 r.1 d.1 k.1, (d.0, Comma ∷ k.0, refl, (d.3 refl i, d.2), inr (k.0, refl, k.2))))

  item_found : (n : ℕ) (ts : List Cell) → is_item ts ≡ true → ((xs : List Cell) → IfSome (flow_at (node 0) n xs) (BracketsFound Q xs)) → IfSome (option_and_then (after_item (flow_at (node 0) n)) (node 0 ts)) (BracketsFound Q ts)
  item_found n ts i m = bound (node 0 ts) (after_item (flow_at (node 0) n)) (Found Q 0 ts) (BracketsFound Q ts) (h 0 ts) (λ b d. after n ts i m b.0 b.1 d)

  pub flow_sound : (n : ℕ) (ts : List Cell) → IfSome (flow_at (node 0) n ts) (BracketsFound Q ts)
  flow_sound zero ts = tt
  flow_sound (suc n) [] = tt
  flow_sound (suc n) (Dash c ∷ ts) = tt
  flow_sound (suc n) (Key c k ∷ ts) = tt
  flow_sound (suc n) (Scalar c v ∷ ts) = item_found n (Scalar c v ∷ ts) refl (flow_sound n)
  flow_sound (suc n) (Open c ∷ ts) = item_found n (Open c ∷ ts) refl (flow_sound n)
  flow_sound (suc n) (Close ∷ ts) = (Close ∷ [], refl, refl)
  flow_sound (suc n) (Comma ∷ ts) = tt

anywhere_by : (Q : Building) (least other : ℕ) (v : YValue) → BuildsBy Q least [] v → BuildsBy Q other [] v
anywhere_by Q least other v (nothing e n) = nothing e n
anywhere_by Q least other v (scalar c l e) = absurd (cc)
anywhere_by Q least other v (flow c i vs l e b n) = absurd (cc)
anywhere_by Q least other v (sequence c w vs l (i, r, e, q, m) n) = absurd (cc)
anywhere_by Q least other v (mapping c x es l (i, r, e, q, m) d n) = absurd (cc)

pub anywhere : (room least other : ℕ) (v : YValue) → Builds room least [] v → Builds room other [] v
anywhere zero least other v b = b
anywhere (suc room) least other v b = anywhere_by (Builds room) least other v b

no_item : {X : Type 0} → false ≡ true → X
no_item e = absurd (cc)

module _ (room : ℕ) (h : (least : ℕ) (ts : List Cell) → IfSome (node_at room least ts) (Found (Builds room) least ts)) (least c : ℕ) (ts : List Cell) where
  dash_sound : (b : Bool) → nat_le least c ≡ b → IfSome (node_from (node_at room) (Dash c ∷ ts) (cond b (firsts.Dash c) firsts.Nothing)) (Found (Builds (suc room)) least (Dash c ∷ ts))
  dash_sound true e =
      rw (eqb-same c)
      (mapped (option_and_then (with_item (items_at (node_at room (c + 1)) (length (Dash c ∷ ts)) c)) (node_at room (c + 1) ts)) (λ (r : AllBuilt). (Seq r.0, r.1)) (SomeItems (Builds room) c (Dash c ∷ ts)) (Found (Builds (suc room)) least (Dash c ∷ ts))
      (first_item (Builds room) (node_at room) h c (items_at (node_at room (c + 1)) (length (Dash c ∷ ts)) c) (items_sound (Builds room) (node_at room) h c (length (Dash c ∷ ts))) ts)
      (λ r k. (k.2, k.4, sequence c k.0 k.1 (leb-is least c e) k.5 (ap Seq k.3), λ z i. no_item i)))
  dash_sound false e = ([], refl, nothing refl refl, λ z i. no_item i)

  distinct_sound : (k : List ℕ) (r : EntriesBuilt) → SomeEntries (Builds room) c (Key c k ∷ ts) r → nat_le least c ≡ true → IfSome (as_map r) (Found (Builds (suc room)) least (Key c k ∷ ts))
  distinct_sound k r f e =
      chosen (Found (Builds (suc room)) least (Key c k ∷ ts)) (is_distinct r.0) (Some (Map r.0, r.1)) None
      (λ d. (f.2, f.4, mapping c f.0 f.1 (leb-is least c e) f.5 (ap is_distinct (sym f.3) ∙ d) (ap Map f.3), λ z i. no_item i))
      (λ d. tt)

  key_sound : (k : List ℕ) (b : Bool) → nat_le least c ≡ b → IfSome (node_from (node_at room) (Key c k ∷ ts) (cond b (firsts.Key c) firsts.Nothing)) (Found (Builds (suc room)) least (Key c k ∷ ts))
  key_sound k true e =
      rw (eqb-same c)
      (bound (option_and_then (with_entry (entries_at (node_at room) (length (Key c k ∷ ts)) c) k) (node_at room (below_key c ts) ts)) as_map (SomeEntries (Builds room) c (Key c k ∷ ts)) (Found (Builds (suc room)) least (Key c k ∷ ts))
      (first_entry (Builds room) (node_at room) h (anywhere room) c (entries_at (node_at room) (length (Key c k ∷ ts)) c) (entries_sound (Builds room) (node_at room) h (anywhere room) c (length (Key c k ∷ ts))) k ts)
      (λ r f. distinct_sound k r f e))
  key_sound k false e = ([], refl, nothing refl refl, λ z i. no_item i)

  scalar_sound : (v : YValue) (b : Bool) → nat_le least c ≡ b → IfSome (node_from (node_at room) (Scalar c v ∷ ts) (cond b firsts.Scalar firsts.Nothing)) (Found (Builds (suc room)) least (Scalar c v ∷ ts))
  scalar_sound v true e = (Scalar c v ∷ [], refl, scalar c (leb-is least c e) refl, λ z i. refl)
  scalar_sound v false e = ([], refl, nothing refl refl, λ z i. absurd (let l = leb-not least c e in omega arith))

  open_sound : (b : Bool) → nat_le least c ≡ b → IfSome (node_from (node_at room) (Open c ∷ ts) (cond b firsts.Open firsts.Nothing)) (Found (Builds (suc room)) least (Open c ∷ ts))
  open_sound true e =
      mapped (flow_at (node_at room 0) (steps ts) ts) (λ (r : AllBuilt). (Seq r.0, r.1)) (BracketsFound (Builds room) ts) (Found (Builds (suc room)) least (Open c ∷ ts))
      (flow_sound (Builds room) (node_at room) h (steps ts) ts)
      (λ r k. (Open c ∷ k.0, ap (λ (z : List Cell). Open c ∷ z) k.1, flow c k.0 r.0 (leb-is least c e) refl k.2 refl, λ z i. refl))
  open_sound false e = ([], refl, nothing refl refl, λ z i. absurd (let l = leb-not least c e in omega arith))

-- what is read at the start of some cells is built by the first of them
pub node_sound : (room least : ℕ) (ts : List Cell) → IfSome (node_at room least ts) (Found (Builds room) least ts)
node_sound zero least ts = tt
node_sound (suc room) least [] = ([], refl, nothing refl refl, λ z i. i)
node_sound (suc room) least (Dash c ∷ ts) = dash_sound room (node_sound room) least c ts (nat_le least c) refl
node_sound (suc room) least (Key c k ∷ ts) = key_sound room (node_sound room) least c ts k (nat_le least c) refl
node_sound (suc room) least (Scalar c v ∷ ts) = scalar_sound room (node_sound room) least c ts v (nat_le least c) refl
node_sound (suc room) least (Open c ∷ ts) = open_sound room (node_sound room) least c ts (nat_le least c) refl
node_sound (suc room) least (Close ∷ ts) = ([], refl, nothing refl refl, λ z i. no_item i)
node_sound (suc room) least (Comma ∷ ts) = ([], refl, nothing refl refl, λ z i. no_item i)
