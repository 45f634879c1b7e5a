-- What names hold along a route, by numbers.
use Rattle.std.proofs.Common.{◌≡◌, ◌≢◌, ◌⊎◌, inl, inr, ℕ, zero, suc, ◌<◌, Bool, true, false, List, [], ◌∷◌, ◌++◌, length, map, refl, sym, ap, ◌∙◌, subst, arith, Some}
use Rattle.std.specs.Prelude.{Option, None, if◌then◌else◌, slice_get, slice_index, slice_index_or, slice_set}
use Rattle.std.specs.Cmp.Lexicographic.{bytes_decides}
use Rattle.std.specs.List.{flat_map}
use Rattle.std.specs.Str.{bytes_eq}
use Rattle.std.proofs.lemmas.List.{get_or-set_same, get_or-set_other, length-set}
use Rattle.node_tree.specs.declared.node.Node.{Node}
use Rattle.node_tree.specs.Kinds.{is_literal}
use Rattle.node_tree.specs.Tree.{kind_of, text_of}
use Rattle.graph_form.specs.declared.graph.Graph.{Graph}
use Rattle.graph_form.specs.declared.graph.Point.{Point}
use Rattle.graph_form.specs.Sets.{Among}
use Rattle.assignments.specs.declared.assignment.Manner.{Manner}
use Rattle.assignments.specs.declared.assignment.Manner.TheVariants as manners
use Rattle.assignments.specs.declared.assignment.Reach.{Reach}
use Rattle.assignments.specs.declared.assignment.Reach.TheVariants as reaches
use Rattle.assignments.specs.Assignments.{assigned_of}
use Rattle.assignments.specs.Seen.{Named, Assigned}
use Rattle.assignments.specs.Targets.{is_name}
use Rattle.held_values.specs.declared.assign.Assign.{Assign}
use Rattle.held_values.specs.declared.assign.Effects.{Effects}
use Rattle.held_values.specs.declared.assign.Source.{Source}
use Rattle.held_values.specs.declared.assign.Source.TheVariants.{Sets}
use Rattle.held_values.specs.Holding as held
use Rattle.unit_names.specs.Names.{is_assigned}
use Rattle.unit_names.specs.Words.{Word, word_of, name_word, place_of, is_one_of}
use Rattle.unit_names.proofs.WordPlaces.{place_less}
use Rattle.unit_effects.specs.Fixed.{Value, State}
use Rattle.unit_effects.specs.Numbering.{number_by, number_of, copied, source_of, source_given, source_got, source_gets, assigned_to, target_assigns, one_assigns}
use Rattle.const_prop.specs.Constants as spec
use Rattle.const_prop.proofs.Tables.{IsTable, at_place}

-- what a number stands for
abbrev pub decoded : List Word → ℕ → Value
decoded literals zero = None
decoded literals (suc k) = slice_get literals k

after_app : (before now : List ℕ) (xs ys : List Assign) → held.after_node before now (xs ++ ys) ≡ held.after_node before (held.after_node before now xs) ys
after_app before now [] ys = refl
after_app before now (x ∷ xs) ys = after_app before (slice_set now x.name (held.value_of before x.source)) xs ys

nodes_at : (f : Point → List (List Assign)) (g : Option Point → List (List Assign)) → g None ≡ [] → ((p : Point) → g (Some p) ≡ f p) → (ps : List Point) (k : ℕ) → slice_index_or (map f ps) k [] ≡ g (slice_get ps k)
nodes_at f g none some [] k = sym none
nodes_at f g none some (p ∷ ps) zero = sym (some p)
nodes_at f g none some (p ∷ ps) (suc k) = nodes_at f g none some ps k

-- the words of a value have their places
pub record HasValue (names literals : List Word) (value : Option Node) : Type 0 where
  pub literal : (n : Node) → value ≡ Some n → is_literal (kind_of n) ≡ true → (k : ℕ) × (place_of literals (word_of n) ≡ Some k)
  pub name : (n : Node) → value ≡ Some n → is_name (kind_of n) ≡ true → (k : ℕ) × (place_of names (word_of n) ≡ Some k)

module _ (names literals hidden : List Word) (hides : List ℕ → Bool) (table : IsTable names) (lits : IsTable literals) (are_names : (k : ℕ) (w : Word) → slice_get names k ≡ Some w → w ≡ name_word w.text)
    (hide_is : (t : List ℕ) → hides t ≡ is_one_of hidden (name_word t)) where
  -- numbers are what names hold
  pub record Mirrors (state : State) (xs : List ℕ) : Type 0 where
    pub size : length xs ≡ length names
    pub each : (k : ℕ) (w : Word) → slice_get names k ≡ Some w → decoded literals (slice_index xs k) ≡ state w.text

  got_is : (reach : Reach) (before : List ℕ) (source : Source) (value : Value) → decoded literals (held.value_of before source) ≡ value → decoded literals (held.value_of before (source_got reach source)) ≡ spec.got reach value
  got_is reaches.Whole before source value e = e
  got_is reaches.Part before source value e = refl
  got_is reaches.Base before source value e = refl

  gets_by : (b : Bool) (reach : Reach) (before : List ℕ) (source : Source) (value : Value) → decoded literals (held.value_of before source) ≡ value
      → decoded literals (held.value_of before (source_gets b reach source)) ≡ (if b then None else spec.got reach value)
  gets_by true reach before source value e = refl
  gets_by false reach before source value e = got_is reach before source value e

  gets_is : (t : Named) (before : List ℕ) (source : Source) (value : Value) → decoded literals (held.value_of before source) ≡ value → decoded literals (held.value_of before (source_gets (hides t.name) t.reach source)) ≡ spec.gets hidden value t
  gets_is t before source value e = gets_by (hides t.name) t.reach before source value e ∙ ap (λ b. if b then None else spec.got t.reach value) (hide_is t.name)

  module _ (state : State) (xs : List ℕ) (m : Mirrors state xs) (name : List ℕ) (v : ℕ) (value : Value) (v_is : decoded literals v ≡ value) where
    abbrev put : State
    put = λ other. if bytes_eq name other then value else state other

    untouched : place_of names (name_word name) ≡ None → Mirrors put xs
    untouched none = record { size = m.size; each = λ k w e. by k w e (bytes_eq name w.text) refl }
      where
        by : (k : ℕ) (w : Word) → slice_get names k ≡ Some w → (b : Bool) → bytes_eq name w.text ≡ b → decoded literals (slice_index xs k) ≡ (if b then value else state w.text)
        by k w e true same =
            let one : w ≡ name_word name = are_names k w e ∙ ap name_word (sym ((bytes_decides name w.text).0 same)) in
            let there : place_of names (name_word name) ≡ Some k = ap (place_of names) (sym one) ∙ table k w e in
            absurd cc
        by k w e false other = m.each k w e

    touched : (j : ℕ) → place_of names (name_word name) ≡ Some j → Mirrors put (slice_set xs j v)
    touched j there = record { size = length-set xs j v ∙ m.size; each = λ k w e. by k w e (bytes_eq name w.text) refl }
      where
        by : (k : ℕ) (w : Word) → slice_get names k ≡ Some w → (b : Bool) → bytes_eq name w.text ≡ b → decoded literals (slice_index (slice_set xs j v) k) ≡ (if b then value else state w.text)
        by k w e true same =
            let one : w ≡ name_word name = are_names k w e ∙ ap name_word (sym ((bytes_decides name w.text).0 same)) in
            let here : place_of names (name_word name) ≡ Some k = ap (place_of names) (sym one) ∙ table k w e in
            let is : j ≡ k = cc in
            let less = place_less names (name_word name) j there in
            let lt : j < length xs = omega (arith, less, m.size) in
            ap (λ i. decoded literals (slice_index (slice_set xs j v) i)) (sym is) ∙ ap (decoded literals) (get_or-set_same xs j v 0 lt) ∙ v_is
        by k w e false other =
            let apart : k ≢ j = λ same.
            let w_is : Some w ≡ Some (name_word name) = sym e ∙ ap (slice_get names) same ∙ at_place names (name_word name) j there in
            let text : name ≡ w.text = let words : w ≡ name_word name = cc in sym (ap (λ (x : Word). x.text) words) in
            let yes = (bytes_decides name w.text).1 text in
            absurd cc in
            ap (decoded literals) (get_or-set_other xs j k v 0 apart) ∙ m.each k w e

    put_by : (o : Option ℕ) → place_of names (name_word name) ≡ o → (source : Source) (before : List ℕ) → held.value_of before source ≡ v → Mirrors put (held.after_node before xs (assigned_to o source))
    put_by None e source before same = untouched e
    put_by (Some j) e source before same = subst (λ n. Mirrors put (slice_set xs j n)) (sym same) (touched j e)

  module _ (before : List ℕ) (source : Source) (value : Value) (source_is : decoded literals (held.value_of before source) ≡ value) where
    target_by : (b : Bool) (t : Named) (state : State) (xs : List ℕ) → Mirrors state xs
        → Mirrors (if b then (λ name. if bytes_eq t.name name then spec.gets hidden value t else state name) else state)
        (held.after_node before xs (if b then assigned_to (place_of names (name_word t.name)) (source_gets (hides t.name) t.reach source) else []))
    target_by false t state xs m = m
    target_by true t state xs m =
        put_by state xs m t.name (held.value_of before (source_gets (hides t.name) t.reach source)) (spec.gets hidden value t) (gets_is t before source value source_is)
        (place_of names (name_word t.name)) refl (source_gets (hides t.name) t.reach source) before refl

    targets_mirror : (ts : List Named) (state : State) (xs : List ℕ) → Mirrors state xs → Mirrors (spec.after_targets hidden value state ts) (held.after_node before xs (flat_map (target_assigns names hides source) ts))
    targets_mirror [] state xs m = m
    targets_mirror (t ∷ ts) state xs m =
        subst (Mirrors (spec.after_targets hidden value (spec.after_target hidden value state t) ts)) (sym (after_app before xs (target_assigns names hides source t) (flat_map (target_assigns names hides source) ts)))
        (targets_mirror ts (spec.after_target hidden value state t) (held.after_node before xs (target_assigns names hides source t)) (target_by (is_assigned t.reach) t state xs m))

  module _ (state : State) (xs : List ℕ) (m : Mirrors state xs) where
    value_by : (n : Node) (a b : Bool) → ((k : ℕ) × (place_of literals (word_of n) ≡ Some k)) ⊎ (a ≡ false) → ((k : ℕ) × (place_of names (word_of n) ≡ Some k)) ⊎ (b ≡ false)
        → decoded literals (held.value_of xs (if a then Sets (number_of literals (Some (word_of n))) else if b then copied (place_of names (word_of n)) else Sets 0)) ≡ (if a then Some (word_of n) else if b then state (text_of n) else None)
    value_by n true b (inl h) copy = ap (λ o. decoded literals (number_by o)) h.1 ∙ at_place literals (word_of n) h.0 h.1
    value_by n true b (inr no_literal) copy = absurd cc
    value_by n false true literal (inl h) = ap (λ o. decoded literals (held.value_of xs (copied o))) h.1 ∙ m.each h.0 (word_of n) (at_place names (word_of n) h.0 h.1)
    value_by n false true literal (inr no_name) = absurd cc
    value_by n false false literal copy = refl

    either : {A : Type 0} (b : Bool) → (b ≡ true → A) → A ⊎ (b ≡ false)
    either true h = inl (h refl)
    either false h = inr refl

    node_is : (n : Node) → HasValue names literals (Some n) → decoded literals (held.value_of xs (source_of names literals n)) ≡ spec.value_of state n
    node_is n has = value_by n (is_literal (kind_of n)) (is_name (kind_of n)) (either (is_literal (kind_of n)) (has.literal n refl)) (either (is_name (kind_of n)) (has.name n refl))

    given_is : (manner : Manner) (value : Option Node) → HasValue names literals value → decoded literals (held.value_of xs (source_given names literals manner value)) ≡ spec.given manner state value
    given_is manners.Statement None has = refl
    given_is manners.Statement (Some n) has = node_is n has
    given_is manners.Expression None has = refl
    given_is manners.Expression (Some n) has = node_is n has
    given_is manners.Augmented value has = refl
    given_is manners.Drawn value has = refl
    given_is manners.Stepped value has = refl
    given_is manners.Deleted value has = refl
    given_is manners.Imported value has = refl
    given_is manners.Caught value has = refl
    given_is manners.Defined value has = refl
    given_is manners.Declared value has = refl

    one_mirrors : (a : Assigned) → HasValue names literals a.value → Mirrors (spec.after_one hidden state a) (held.after_node xs xs (one_assigns names literals hides a))
    one_mirrors a has = targets_mirror xs (source_given names literals a.manner a.value) (spec.given a.manner state a.value) (given_is a.manner a.value has) a.targets state xs m

  all_mirror : (many : List Assigned) → ((a : Assigned) → Among many a → HasValue names literals a.value) → (state : State) (xs : List ℕ) → Mirrors state xs → Mirrors (spec.after_all hidden state many) (held.after_nodes xs (map (one_assigns names literals hides) many))
  all_mirror [] has state xs m = m
  all_mirror (a ∷ many) has state xs m =
      all_mirror many (λ b among. has b (inr among)) (spec.after_one hidden state a) (held.after_node xs xs (one_assigns names literals hides a)) (one_mirrors state xs m a (has a (inl refl)))

  module _ (nodes : List Node) (graph : Graph) (start : State) (effects : Effects) (points_are : effects.points ≡ map (λ p. map (one_assigns names literals hides) (assigned_of nodes p)) graph.points) (begins : Mirrors start effects.start)
      (has : (k : ℕ) (a : Assigned) → Among (spec.assigned_by nodes (slice_get graph.points k)) a → HasValue names literals a.value) where
    at_point : (k : ℕ) → slice_index_or effects.points k [] ≡ map (one_assigns names literals hides) (spec.assigned_by nodes (slice_get graph.points k))
    at_point k =
        ap (λ ps. slice_index_or ps k []) points_are
        ∙ nodes_at (λ p. map (one_assigns names literals hides) (assigned_of nodes p)) (λ o. map (one_assigns names literals hides) (spec.assigned_by nodes o)) refl (λ p. refl) graph.points k

    -- along each route the numbers are what the names hold
    pub route_mirrors : (route : List ℕ) → Mirrors (spec.left nodes hidden start graph route) (held.left effects route)
    route_mirrors [] = begins
    route_mirrors (last ∷ earlier) =
        subst (λ ns. Mirrors (spec.left nodes hidden start graph (last ∷ earlier)) (held.after_nodes (held.left effects earlier) ns)) (sym (at_point last))
        (all_mirror (spec.assigned_by nodes (slice_get graph.points last)) (has last) (spec.left nodes hidden start graph earlier) (held.left effects earlier) (route_mirrors earlier))

    number_is : (x l : ℕ) (literal : Word) → slice_get literals l ≡ Some literal → decoded literals x ≡ Some literal → x ≡ suc l
    number_is zero l literal here e = absurd cc
    number_is (suc m) l literal here e = let a = lits m literal e in let b = lits l literal here in let same : m ≡ l = cc in ap suc same

    -- a name holds a literal where its number holds the literal's
    pub holds_forth : (point k l : ℕ) (name : List ℕ) (literal : Word) → slice_get names k ≡ Some (name_word name) → slice_get literals l ≡ Some literal
        → ((route : List ℕ) → held.IsRoute graph route point → spec.left nodes hidden start graph route name ≡ Some literal) → (route : List ℕ) → held.IsRoute graph route point → slice_index (held.left effects route) k ≡ suc l
    holds_forth point k l name literal there here every route leads =
        number_is (slice_index (held.left effects route) k) l literal here ((route_mirrors route).each k (name_word name) there ∙ every route leads)

    pub holds_back : (point k l : ℕ) (name : List ℕ) (literal : Word) → slice_get names k ≡ Some (name_word name) → slice_get literals l ≡ Some literal
        → ((route : List ℕ) → held.IsRoute graph route point → slice_index (held.left effects route) k ≡ suc l) → (route : List ℕ) → held.IsRoute graph route point → spec.left nodes hidden start graph route name ≡ Some literal
    holds_back point k l name literal there here every route leads =
        sym ((route_mirrors route).each k (name_word name) there) ∙ ap (decoded literals) (every route leads) ∙ here
