-- The nodes of a point, merged into assignments that all take the values before it.
use Rattle.std.proofs.Common.{◌≡◌, ℕ, zero, suc, ◌+◌, ◌<◌, ◌≤◌, ◌⊎◌, ◌↔◌, inl, inr, List, [], ◌∷◌, ◌++◌, length, map, drop, get_or, set, sym, ◌∙◌, ap, subst, refl, arith, length-set}
use Rattle.std.proofs.Common.{get_or-set_same, get_or-set_other}
use Rattle.std.specs.Prelude.{slice_index}
use Rattle.std.proofs.lemmas.Bool.{cases_eq}
use Rattle.std.proofs.lemmas.List.{map-set, at_drop_more, length-map, ext_get_or, drop_all}
use Rattle.std.proofs.Math.ListN.{get_or-map}
use Rattle.graph_form.specs.Sets.{Among}
use Rattle.held_values.specs.declared.assign.Assign.{Assign}
use Rattle.held_values.specs.declared.assign.Source.{Source}
use Rattle.held_values.specs.declared.assign.Source.TheVariants.{Sets, Copies}
use Rattle.held_values.specs.Holding.{value_of, after_node, after_nodes, IsInside, AreInside}
use Rattle.held_values.specs.Merged.{source_before, assign_before, put_all, assign_to, Assigns, AreOwn, AreSourcesInside, AddsNode, IsMerged}

-- the targets of a node

before_value : (state : List ℕ) (before : List Source) (s : Source) → value_of state (source_before before s) ≡ value_of (map (value_of state) before) s
before_value state before (Sets v) = refl
before_value state before (Copies b) = sym (get_or-map (value_of state) before b (Sets 0))

node_put : (state : List ℕ) (before now : List Source) (node : List Assign) → map (value_of state) (put_all now (map (assign_before before) node)) ≡ after_node (map (value_of state) before) (map (value_of state) now) node
node_put state before now [] = refl
node_put state before now (x ∷ xs) =
    let one : map (value_of state) (set now x.name (source_before before x.source)) ≡ set (map (value_of state) now) x.name (value_of (map (value_of state) before) x.source) =
    map-set (value_of state) now x.name (source_before before x.source) ∙ ap (λ v. set (map (value_of state) now) x.name v) (before_value state before x.source) in
    node_put state before (set now x.name (source_before before x.source)) xs ∙ ap (λ n. after_node (map (value_of state) before) n xs) one

put_size : (sources : List Source) (taken : List Assign) → length (put_all sources taken) ≡ length sources
put_size sources [] = refl
put_size sources (x ∷ xs) = put_size (set sources x.name x.source) xs ∙ length-set _ _ _

put_others : (before now : List Source) (node : List Assign) (name : ℕ) → (Assigns node name → ⊥) → get_or (put_all now (map (assign_before before) node)) name (Sets 0) ≡ get_or now name (Sets 0)
put_others before now [] name none = refl
put_others before now (x ∷ xs) name none =
    put_others before (set now x.name (source_before before x.source)) xs name (λ (a, among, e). none (a, inr among, e))
    ∙ get_or-set_other now x.name name (source_before before x.source) (Sets 0) (λ e. none (x, inl refl, sym e))

source_inside : (before : List Source) (s : Source) (other : ℕ) → AreSourcesInside before → ((o : ℕ) → s ≡ Copies o → o < length before) → source_before before s ≡ Copies other → other < length before
source_inside before (Sets v) other all inside e = absurd cc
source_inside before (Copies b) other all inside e = all b other (inside b refl) e

set_inside : (sources : List Source) (at : ℕ) (s : Source) → AreSourcesInside sources → ((o : ℕ) → s ≡ Copies o → o < length sources) → AreSourcesInside (set sources at s)
set_inside sources at s all inside name other lt e =
    let size : length (set sources at s) ≡ length sources = length-set sources at s in
    let there : name < length sources = omega (arith, lt, size) in
    elim (cases_eq name at) [
      | inl same ↦
          let P : ℕ → Type 0 = λ n. get_or (set sources at s) n (Sets 0) ≡ Copies other in
          let at_lt : at < length sources = omega (arith, there, same) in
          omega (arith, inside other (sym (get_or-set_same sources at s (Sets 0) at_lt) ∙ subst P same e), size)
      | inr ne ↦ omega (arith, all name other there (sym (get_or-set_other sources at name s (Sets 0) ne) ∙ e), size)
    ]

node_inside : (before now : List Source) (node : List Assign) → length now ≡ length before → AreSourcesInside before → AreSourcesInside now → AreInside (length before) node → AreSourcesInside (put_all now (map (assign_before before) node))
node_inside before now [] size old all inside = all
node_inside before now (x ∷ xs) size old all inside =
    let s = source_before before x.source in
    let s_in : (o : ℕ) → s ≡ Copies o → o < length now = λ o e. omega (arith, size, source_inside before x.source o old (inside x (inl refl)).copied e) in
    node_inside before (set now x.name s) xs (length-set now x.name s ∙ size) old (set_inside now x.name s all s_in) (λ a among. inside a (inr among))

pub node_added : (old new : List Source) (node : List Assign) (before after : List ℕ) → AreInside (length old) node → new ≡ put_all old (map (assign_before old) node) → ((name : ℕ) → Among after name ↔ (Among before name ⊎ Assigns node name)) → AddsNode node old new before after
node_added old new node before after inside is names = record {
  size = ap length is ∙ put_size old (map (assign_before old) node);
  says = λ state. ap (map (value_of state)) is ∙ node_put state old old node;
  inside = λ all. let P : List Source → Type 0 = λ s. AreSourcesInside s in subst P (sym is) (node_inside old old node refl all all inside);
  others = λ name none. ap (λ s. get_or s name (Sets 0)) is ∙ put_others old old node name none;
  names = names;
}

-- the names of taken assignments are there
pub taken_there : (before : List Source) (node : List Assign) (names : ℕ) → AreInside names node → (assign : Assign) → Among (map (assign_before before) node) assign → assign.name < names
taken_there before [] names inside assign among = absurd among
taken_there before (x ∷ xs) names inside assign (inl e) = let P : Assign → Type 0 = λ a. a.name < names in subst P e (inside x (inl refl)).name
taken_there before (x ∷ xs) names inside assign (inr there) = taken_there before xs names (λ a among. inside a (inr among)) assign there

-- each name comes from itself

pub own_says : (state : List ℕ) (sources : List Source) → AreOwn sources → length state ≡ length sources → map (value_of state) sources ≡ state
own_says state sources own size =
    ext_get_or 0 (map (value_of state) sources) state (length-map sources (value_of state) ∙ sym size) (λ i lt.
    let inside : i < length sources = omega (arith, lt, length-map sources (value_of state)) in
    get_or-map (value_of state) sources i (Sets 0) ∙ ap (value_of state) (own i inside))

copies_same : (a b : ℕ) → Copies a ≡ Copies b → a ≡ b
copies_same a b e = cc

own_inside : (sources : List Source) → AreOwn sources → AreSourcesInside sources
own_inside sources own name other lt e = omega (arith, lt, copies_same name other (sym (own name lt) ∙ e))

pub own_push : (sources : List Source) (name : ℕ) → AreOwn sources → name ≡ length sources → AreOwn (sources ++ Copies name ∷ [])
own_push sources name own last i lt =
    let z : (k : ℕ) → 0 + k ≡ k = λ k. omega arith in
    let e : name ≡ 0 + length sources = last ∙ sym (z (length sources)) in
    let P : ℕ → Type 0 = λ n. get_or (sources ++ Copies n ∷ []) i (Sets 0) ≡ Copies i in
    let L : ℕ → Type 0 = λ n. i < length (sources ++ Copies n ∷ []) in
    subst P (sym e) (pushed sources 0 (λ j less. own j less ∙ ap Copies (sym (z j))) i (subst L e lt) ∙ ap Copies (z i))
  where
    pushed : (xs : List Source) (base : ℕ) → ((j : ℕ) → j < length xs → get_or xs j (Sets 0) ≡ Copies (base + j)) → (j : ℕ) → j < length (xs ++ Copies (base + length xs) ∷ []) → get_or (xs ++ Copies (base + length xs) ∷ []) j (Sets 0) ≡ Copies (base + j)
    pushed [] base all zero less = refl
    pushed [] base all (suc j) less = absurd (omega arith)
    pushed (x ∷ xs) base all zero less = all zero (omega arith)
    pushed (x ∷ xs) base all (suc j) less =
        let moved : base + suc (length xs) ≡ suc base + length xs = omega arith in
        let here : base + suc j ≡ suc base + j = omega arith in
        let A : (k : ℕ) → k < length xs → get_or xs k (Sets 0) ≡ Copies (suc base + k) = λ k lt. all (suc k) (omega arith) ∙ ap Copies (let e : base + suc k ≡ suc base + k = omega arith in e) in
        let Q : ℕ → Type 0 = λ n. get_or (xs ++ Copies n ∷ []) j (Sets 0) ≡ Copies (base + suc j) in
        let M : ℕ → Type 0 = λ n. j < length (xs ++ Copies n ∷ []) in
        let room : j < length (xs ++ Copies (base + suc (length xs)) ∷ []) = omega arith in
        subst Q (sym moved) (pushed xs (suc base) A j (subst M moved room) ∙ ap Copies (sym here))

-- nodes, one after the other
pub record IsMerging (nodes : List (List Assign)) (i : ℕ) (initial sources : List Source) (listed : List ℕ) : Type 0 where
  pub size : length sources ≡ length initial
  pub says : (state : List ℕ) → length state ≡ length initial → after_nodes (map (value_of state) sources) (drop i nodes) ≡ after_nodes state nodes
  pub inside : AreSourcesInside sources
  pub plain : (name : ℕ) → name < length initial → (Among listed name → ⊥) → get_or sources name (Sets 0) ≡ Copies name
  pub names : (name : ℕ) → Among listed name → name < length initial

pub merging_first : (nodes : List (List Assign)) (initial : List Source) → AreOwn initial → IsMerging nodes 0 initial initial []
merging_first nodes initial own = record {
  size = refl;
  says = λ state size. ap (λ s. after_nodes s nodes) (own_says state initial own size);
  inside = own_inside initial own;
  plain = λ name lt none. own name lt;
  names = λ name among. absurd among;
}

pub merging_more : (nodes : List (List Assign)) (i : ℕ) (initial old new : List Source) (before after : List ℕ) (node : List Assign) → i < length nodes → node ≡ get_or nodes i node → AreInside (length old) node → IsMerging nodes i initial old before → AddsNode node old new before after → IsMerging nodes (i + 1) initial new after
merging_more nodes i initial old new before after node lt read inside m adds = record {
  size = adds.size ∙ m.size;
  says = λ state size.
      let M = map (value_of state) old in
      ap (λ s. after_nodes s (drop (i + 1) nodes)) (adds.says state ∙ ap (after_node M M) read) ∙ sym (at_drop_more (after_nodes M) nodes i node lt) ∙ m.says state size;
  inside = adds.inside m.inside;
  plain = λ name less none. adds.others name (λ a. none ((adds.names name).1 (inr a))) ∙ m.plain name less (λ b. none ((adds.names name).1 (inl b)));
  names = λ name among. elim ((adds.names name).0 among) [
    | inl b ↦ m.names name b
    | inr (a, there, e) ↦ omega (arith, e, (inside a there).name, m.size)
  ];
}

-- the assignments to the names that were assigned

map_among : (sources : List Source) (names : List ℕ) (assign : Assign) → Among (map (assign_to sources) names) assign → (name : ℕ) × Among names name × (assign_to sources name ≡ assign)
map_among sources [] assign h = absurd h
map_among sources (x ∷ xs) assign (inl e) = (x, inl refl, e)
map_among sources (x ∷ xs) assign (inr h) = let r = map_among sources xs assign h in (r.0, inr r.1, r.2)

among_map : (sources : List Source) (names : List ℕ) (name : ℕ) → Among names name → Assigns (map (assign_to sources) names) name
among_map sources [] name h = absurd h
among_map sources (x ∷ xs) name (inl e) = (assign_to sources x, inl refl, e)
among_map sources (x ∷ xs) name (inr h) = let r = among_map sources xs name h in (r.0, inr r.1, r.2)

pub merged_is : (nodes : List (List Assign)) (i : ℕ) (initial sources : List Source) (names : List ℕ) (assigns : List Assign) → length nodes ≤ i → IsMerging nodes i initial sources names → assigns ≡ map (assign_to sources) names → IsMerged (length initial) nodes assigns
merged_is nodes i initial sources names assigns done m is =
    let says : (state : List ℕ) → length state ≡ length initial → after_nodes state nodes ≡ map (value_of state) sources = λ state size.
    sym (m.says state size) ∙ ap (after_nodes (map (value_of state) sources)) (drop_all i nodes done) in
    let from : (assign : Assign) → Among assigns assign → (name : ℕ) × Among names name × (assign_to sources name ≡ assign) = λ assign among.
    let P : List Assign → Type 0 = λ xs. Among xs assign in map_among sources names assign (subst P is among) in
    record {
      inside = λ assign among.
          let r = from assign among in
          let P : Assign → Type 0 = λ a. IsInside (length initial) a in
          let lt = m.names r.0 r.1 in
          let it : IsInside (length initial) (assign_to sources r.0) = record { name = lt; copied = λ other e. omega (arith, m.size, m.inside r.0 other (omega (arith, lt, m.size)) e) } in
          subst P r.2 it;
      each = λ state size assign among.
          let r = from assign among in
          let P : Assign → Type 0 = λ a. slice_index (after_nodes state nodes) a.name ≡ value_of state a.source in
          subst P r.2 (ap (λ s. get_or s r.0 0) (says state size) ∙ get_or-map (value_of state) sources r.0 (Sets 0));
      others = λ state size name lt none.
          let unlisted : Among names name → ⊥ = λ among. let P : List Assign → Type 0 = λ xs. Assigns xs name in none (subst P (sym is) (among_map sources names name among)) in
          ap (λ s. get_or s name 0) (says state size) ∙ get_or-map (value_of state) sources name (Sets 0) ∙ ap (value_of state) (m.plain name lt unlisted);
    }

-- names that come from themselves again
abbrev pub AreReset : List Source → List ℕ → List ℕ → Type 0
AreReset sources names done = (name : ℕ) → name < length sources → (Among names name → Among done name) → get_or sources name (Sets 0) ≡ Copies name

pub reset_more : (sources : List Source) (names done more : List ℕ) (one : ℕ) → ((name : ℕ) → Among more name ↔ (Among done name ⊎ (one ≡ name))) → AreReset sources names done → AreReset (set sources one (Copies one)) names more
reset_more sources names done more one split all name lt among =
    let inside : name < length sources = omega (arith, lt, length-set sources one (Copies one)) in
    elim (cases_eq name one) [
      | inl e ↦
          let P : ℕ → Type 0 = λ n. get_or (set sources one (Copies one)) n (Sets 0) ≡ Copies n in
          subst P (sym e) (get_or-set_same sources one (Copies one) (Sets 0) (omega (arith, inside, e)))
      | inr ne ↦ get_or-set_other sources one name (Copies one) (Sets 0) ne ∙ all name inside (λ h. elim ((split name).0 (among h)) [ inl d ↦ d | inr e ↦ absurd (ne (sym e)) ])
    ]

-- the names of one assignment more
pub assigns_more : (all some : List Assign) (a : Assign) (name : ℕ) → ((x : Assign) → Among all x ↔ (Among some x ⊎ (a ≡ x))) → Assigns all name ↔ (Assigns some name ⊎ (a.name ≡ name))
assigns_more all some a name split = (
  λ (x, among, e). elim ((split x).0 among) [
    | inl o ↦ inl (x, o, e)
    | inr s ↦ let P : Assign → Type 0 = λ y. y.name ≡ name in inr (subst P (sym s) e)
  ],
  λ h. elim h [ inl (x, o, e) ↦ (x, (split x).1 (inl o), e) | inr e ↦ (a, (split a).1 (inr refl), e) ],
)
