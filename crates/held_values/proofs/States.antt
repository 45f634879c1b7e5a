-- States: how long they are, which values stand in them, and what nodes and merged assignments make of them.
use Rattle.std.proofs.Common.{◌≡◌, ℕ, zero, suc, ◌<◌, ◌≤◌, ◌⊎◌, inl, inr, List, [], ◌∷◌, length, set, sym, ◌∙◌, ap, subst, refl, arith, length-set}
use Rattle.std.specs.Prelude.{slice_index}
use Rattle.std.proofs.lemmas.Bool.{cases_eq}
use Rattle.graph_form.specs.Sets.{Among}
use Rattle.held_values.specs.declared.assign.Assign.{Assign}
use Rattle.held_values.specs.declared.assign.Source.{Source}
use Rattle.held_values.specs.declared.assign.Source.TheVariants.{Sets, Copies}
use Rattle.held_values.specs.Holding.{value_of, after_node, after_nodes, AreKnown}
use Rattle.held_values.specs.Merged.{Assigns, IsMerged, Yields, Turns}

-- how long states are

node_size : (before now : List ℕ) (node : List Assign) → length (after_node before now node) ≡ length now
node_size before now [] = refl
node_size before now (x ∷ xs) = node_size before (set now x.name (value_of before x.source)) xs ∙ length-set _ _ _

pub nodes_size : (state : List ℕ) (nodes : List (List Assign)) → length (after_nodes state nodes) ≡ length state
nodes_size state [] = refl
nodes_size state (node ∷ nodes) = nodes_size (after_node state state node) nodes ∙ node_size state state node

-- which values stand in them

abbrev pub AreSmall : ℕ → List ℕ → Type 0
AreSmall most state = (i : ℕ) → slice_index state i ≤ most

set_small : (most : ℕ) (xs : List ℕ) (at v : ℕ) → AreSmall most xs → v ≤ most → AreSmall most (set xs at v)
set_small most [] at v all le i = all i
set_small most (x ∷ xs) zero v all le zero = le
set_small most (x ∷ xs) zero v all le (suc i) = all (suc i)
set_small most (x ∷ xs) (suc at) v all le zero = all zero
set_small most (x ∷ xs) (suc at) v all le (suc i) = set_small most xs at v (λ j. all (suc j)) le i

value_small : (most : ℕ) (state : List ℕ) (source : Source) → AreSmall most state → ((v : ℕ) → source ≡ Sets v → v ≤ most) → value_of state source ≤ most
value_small most state (Sets v) all known = known v refl
value_small most state (Copies name) all known = all name

node_small : (most : ℕ) (before now : List ℕ) (node : List Assign) → AreSmall most before → AreSmall most now → ((assign : Assign) → Among node assign → (v : ℕ) → assign.source ≡ Sets v → v ≤ most) → AreSmall most (after_node before now node)
node_small most before now [] old all known = all
node_small most before now (x ∷ xs) old all known =
    node_small most before (set now x.name (value_of before x.source)) xs old (set_small most now x.name (value_of before x.source) all (value_small most before x.source old (known x (inl refl)))) (λ a among. known a (inr among))

pub nodes_small : (most : ℕ) (state : List ℕ) (nodes : List (List Assign)) → AreSmall most state → AreKnown most nodes → AreSmall most (after_nodes state nodes)
nodes_small most state [] all known = all
nodes_small most state (node ∷ nodes) all known =
    nodes_small most (after_node state state node) nodes (node_small most state state node all all (known node (inl refl))) (λ n among. known n (inr among))

pub list_small : (most : ℕ) (xs : List ℕ) → ((x : ℕ) → Among xs x → x ≤ most) → AreSmall most xs
list_small most [] all i = omega arith
list_small most (x ∷ xs) all zero = all x (inl refl)
list_small most (x ∷ xs) all (suc i) = list_small most xs (λ y among. all y (inr among)) i

-- what merged assignments make of them

assigns_or : (assigns : List Assign) (name : ℕ) → Assigns assigns name ⊎ (Assigns assigns name → ⊥)
assigns_or [] name = inr (λ h. h.1)
assigns_or (x ∷ xs) name = elim (cases_eq x.name name) [
  | inl e ↦ inl (x, inl refl, e)
  | inr ne ↦ elim (assigns_or xs name) [
    | inl (a, among, e) ↦ inl (a, inr among, e)
    | inr none ↦ inr (λ (a, among, e). elim among [
      | inl same ↦ let P : Assign → Type 0 = λ y. y.name ≡ name in ne (subst P (sym same) e)
      | inr there ↦ none (a, there, e)
    ])
  ]
]

-- the value that a source gives
yields_value : (state : List ℕ) (source : Source) (name value target after : ℕ) → Yields source name value target after → slice_index state name ≡ value → value_of state source ≡ after
yields_value state (Sets w) name value target after (e, f) held = sym f
yields_value state (Copies other) name value target after (e, f) held = ap (slice_index state) (sym e) ∙ held ∙ sym f

-- a name of which a source gives a value
yields_some : (state : List ℕ) (source : Source) (names target : ℕ) → target < names → ((other : ℕ) → source ≡ Copies other → other < names) → (name : ℕ) × (name < names) × Yields source name (slice_index state name) target (value_of state source)
yields_some state (Sets w) names target lt inside = (target, lt, (refl, refl))
yields_some state (Copies other) names target lt inside = (other, inside other refl, (refl, refl))

yields_kind : (source : Source) (name value target after : ℕ) → Yields source name value target after → ((after ≡ value) × ((x : ℕ) → Yields source name x target x)) ⊎ ((x : ℕ) → Yields source name x target after)
yields_kind (Sets w) name value target after (e, f) = inr (λ x. (e, f))
yields_kind (Copies other) name value target after (e, f) = inl (f, λ x. (e, refl))

-- what is passed on hangs on the value, as it is, or doesn't hang on it
pub turns_kind : (assigns : List Assign) (name value target after : ℕ) → Turns assigns name value target after → ((after ≡ value) × ((x : ℕ) → Turns assigns name x target x)) ⊎ ((x : ℕ) → Turns assigns name x target after)
turns_kind assigns name value target after (inl (same, e, none)) = inl (e, λ x. inl (same, refl, none))
turns_kind assigns name value target after (inr (a, among, (to, yields))) = elim (yields_kind a.source name value target after yields) [
  | inl (e, f) ↦ inl (e, λ x. inr (a, among, (to, f x)))
  | inr f ↦ inr (λ x. inr (a, among, (to, f x)))
]

module _ (names : ℕ) (nodes : List (List Assign)) (assigns : List Assign) (is : IsMerged names nodes assigns) (state : List ℕ) (size : length state ≡ names) where
  pub turned_there : (name value target after : ℕ) → name < names → Turns assigns name value target after → target < names
  turned_there name value target after lt (inl (same, e, none)) = omega (arith, same, lt)
  turned_there name value target after lt (inr (a, among, (to, yields))) = omega (arith, to, (is.inside a among).name)

  pub turned : (name value target after : ℕ) → name < names → slice_index state name ≡ value → Turns assigns name value target after → slice_index (after_nodes state nodes) target ≡ after
  turned name value target after lt held (inl (same, e, none)) =
      let P : ℕ → Type 0 = λ t. slice_index (after_nodes state nodes) t ≡ after in
      subst P same (is.others state size name lt none ∙ held ∙ sym e)
  turned name value target after lt held (inr (a, among, (to, yields))) =
      let P : ℕ → Type 0 = λ t. slice_index (after_nodes state nodes) t ≡ after in
      subst P to (is.each state size a among ∙ yields_value state a.source name value target after yields held)

  pub turn_of : (target : ℕ) → target < names → (name : ℕ) × (name < names) × Turns assigns name (slice_index state name) target (slice_index (after_nodes state nodes) target)
  turn_of target lt = elim (assigns_or assigns target) [
    | inl (a, among, e) ↦
        let y = yields_some state a.source names target lt (is.inside a among).copied in
        let value : slice_index (after_nodes state nodes) target ≡ value_of state a.source =
        let P : ℕ → Type 0 = λ t. slice_index (after_nodes state nodes) t ≡ value_of state a.source in subst P e (is.each state size a among) in
        let Q : ℕ → Type 0 = λ v. Yields a.source y.0 (slice_index state y.0) target v in
        (y.0, y.1, inr (a, among, (e, subst Q (sym value) y.2)))
    | inr none ↦ (target, lt, inl (refl, is.others state size target lt none, none))
  ]
