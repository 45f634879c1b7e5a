-- In a unit in which no name may be known, none is.
use Rattle.std.proofs.Common.{◌≡◌, ◌⊎◌, inl, inr, ℕ, zero, suc, ◌+◌, ◌<◌, ◌≤◌, Bool, true, false, List, [], ◌∷◌, ◌++◌, length, take, map, get_or, refl, sym, ap, ◌∙◌, arith, Some}
use Rattle.std.specs.Prelude.{Option, None, ◌&&◌, ◌||◌, if◌then◌else◌, slice_get}
use Rattle.std.specs.List.{flat_map, list_any}
use Rattle.std.specs.Option.{is_some}
use Rattle.std.specs.Str.{bytes_eq}
use Rattle.std.proofs.lemmas.List.{get_or_default, take_all}
use Rattle.node_tree.specs.declared.node.Node.{Node}
use Rattle.node_tree.specs.Kinds.{is_literal}
use Rattle.node_tree.specs.Numbers.{Numbered}
use Rattle.node_tree.specs.Tree.{kind_of, text_of}
use Rattle.graph_form.specs.declared.graph.Point.{Point}
use Rattle.graph_form.specs.Sets.{Among}
use Rattle.held_values.proofs.Concerns.{got_among}
use Rattle.point_nodes.specs.Tops.{nodes_of}
use Rattle.assignments.specs.declared.assignment.Manner.{Manner}
use Rattle.assignments.specs.declared.assignment.Manner.TheVariants as manners
use Rattle.assignments.specs.declared.assignment.Reach.{Reach}
use Rattle.assignments.specs.declared.assignment.Reach.TheVariants as reaches
use Rattle.assignments.specs.Assignments.{assigned_of}
use Rattle.assignments.specs.Seen.{Named, Assigned}
use Rattle.assignments.specs.Targets.{is_name}
use Rattle.assignments.proofs.Loops.{pushed_more}
use Rattle.unit_names.specs.declared.scope.Scope.{Scope}
use Rattle.unit_names.specs.Names.{is_assigned}
use Rattle.unit_names.specs.Words.{Word, word_of, name_word, is_one_of}
use Rattle.unit_effects.proofs.Lists.{none_more}
use Rattle.unit_effects.specs.Fixed.{Value, State}
use Rattle.const_prop.specs.Constants as spec
use Rattle.const_prop.specs.Idle.{is_whole, holds, says, says_by, gives, is_given_at, is_given, is_heard, unknown, all_unknown}
use Rattle.const_prop.specs.Sights.{AddsSeen}
use Rattle.const_prop.specs.Views.{is_in, sightings_at, sightings_from}
use Rattle.const_prop.proofs.Seeing.{adds_seen}

-- ---- lists of which none passes a test

or_none : (a b : Bool) → a || b ≡ false → (a ≡ false) × (b ≡ false)
or_none true b e = absurd cc
or_none false b e = (refl, e)

none_of : {X : Type 0} (test : X → Bool) (xs : List X) → list_any test xs ≡ false → (x : X) → Among xs x → test x ≡ false
none_of test [] none x among = absurd among
none_of test (y ∷ ys) none x (inl is) = ap test (sym is) ∙ (or_none (test y) (list_any test ys) none).0
none_of test (y ∷ ys) none x (inr among) = none_of test ys (or_none (test y) (list_any test ys) none).1 x among

-- ---- what names hold where nothing is given

-- each name holds what it holds at the entry, or nothing is known of it
abbrev IsNoMore : State → State → Type 0
IsNoMore start state = (name : List ℕ) → (state name ≡ None) ⊎ (state name ≡ start name)

no_value : (v : Value) → is_some v ≡ false → v ≡ None
no_value None e = refl
no_value (Some w) e = absurd cc

module _ (start state : State) (so : IsNoMore start state) where
  still_none : (name : List ℕ) → is_some (start name) ≡ false → state name ≡ None
  still_none name none = by (so name)
    where
      by : (state name ≡ None) ⊎ (state name ≡ start name) → state name ≡ None
      by (inl e) = e
      by (inr e) = e ∙ no_value (start name) none

  node_by : (n : Node) (a b : Bool) → a || (b && is_some (start (text_of n))) ≡ false → (if a then Some (word_of n) else if b then state (text_of n) else None) ≡ None
  node_by n true b e = absurd cc
  node_by n false true e = still_none (text_of n) e
  node_by n false false e = refl

  node_none : (n : Node) → says start n ≡ false → spec.value_of state n ≡ None
  node_none n e = node_by n (is_literal (kind_of n)) (is_name (kind_of n)) e

  given_none : (manner : Manner) (value : Option Node) → says_by start manner value ≡ false → spec.given manner state value ≡ None
  given_none manners.Statement None e = refl
  given_none manners.Statement (Some n) e = node_none n e
  given_none manners.Expression None e = refl
  given_none manners.Expression (Some n) e = node_none n e
  given_none manners.Augmented value e = refl
  given_none manners.Drawn value e = refl
  given_none manners.Stepped value e = refl
  given_none manners.Deleted value e = refl
  given_none manners.Imported value e = refl
  given_none manners.Caught value e = refl
  given_none manners.Defined value e = refl
  given_none manners.Declared value e = refl

-- what is got by a target that isn't whole, or of a value of which nothing is known
got_none : (reach : Reach) (value : Value) → (is_whole reach ≡ false) ⊎ (value ≡ None) → spec.got reach value ≡ None
got_none reaches.Whole value (inl e) = absurd cc
got_none reaches.Whole value (inr e) = e
got_none reaches.Part value h = refl
got_none reaches.Base value h = refl

module _ (start : State) (hidden : List Word) where
  gets_by : (b : Bool) (reach : Reach) (value : Value) → (is_whole reach ≡ false) ⊎ (value ≡ None) → (if b then None else spec.got reach value) ≡ None
  gets_by true reach value h = refl
  gets_by false reach value h = got_none reach value h

  target_by : (b : Bool) (t : Named) (value : Value) (state : State) → (is_whole t.reach ≡ false) ⊎ (value ≡ None) → IsNoMore start state
      → IsNoMore start (if b then (λ name. if bytes_eq t.name name then spec.gets hidden value t else state name) else state)
  target_by false t value state h so = so
  target_by true t value state h so = λ name. by name (bytes_eq t.name name)
    where
      by : (name : List ℕ) (c : Bool) → ((if c then spec.gets hidden value t else state name) ≡ None) ⊎ ((if c then spec.gets hidden value t else state name) ≡ start name)
      by name true = inl (gets_by (is_one_of hidden (name_word t.name)) t.reach value h)
      by name false = so name

  targets_no_more : (value : Value) (ts : List Named) → ((t : Named) → Among ts t → (is_whole t.reach ≡ false) ⊎ (value ≡ None)) → (state : State) → IsNoMore start state → IsNoMore start (spec.after_targets hidden value state ts)
  targets_no_more value [] each state so = so
  targets_no_more value (t ∷ ts) each state so =
      targets_no_more value ts (λ u among. each u (inr among)) (spec.after_target hidden value state t) (target_by (is_assigned t.reach) t value state (each t (inl refl)) so)

  -- what each target of an assignment that gives nothing lacks
  lacks : (a : Assigned) (state : State) → IsNoMore start state → (b c : Bool) → list_any (λ (t : Named). is_whole t.reach) a.targets ≡ b → says_by start a.manner a.value ≡ c → b && c ≡ false
      → (t : Named) → Among a.targets t → (is_whole t.reach ≡ false) ⊎ (spec.given a.manner state a.value ≡ None)
  lacks a state so false c whole said e t among = inl (none_of (λ (u : Named). is_whole u.reach) a.targets whole t among)
  lacks a state so true false whole said e t among = inr (given_none start state so a.manner a.value said)
  lacks a state so true true whole said e t among = absurd cc

  one_no_more : (a : Assigned) → gives start a ≡ false → (state : State) → IsNoMore start state → IsNoMore start (spec.after_one hidden state a)
  one_no_more a none state so =
      targets_no_more (spec.given a.manner state a.value) a.targets (lacks a state so (list_any (λ (t : Named). is_whole t.reach) a.targets) (says_by start a.manner a.value) refl refl none) state so

  all_no_more : (many : List Assigned) → list_any (gives start) many ≡ false → (state : State) → IsNoMore start state → IsNoMore start (spec.after_all hidden state many)
  all_no_more [] none state so = so
  all_no_more (a ∷ many) none state so =
      let each = or_none (gives start a) (list_any (gives start) many) none in
      all_no_more many each.1 (spec.after_one hidden state a) (one_no_more a each.0 state so)

module _ (nodes : List Node) (start : State) (s : Scope) (quiet : is_given nodes start s ≡ false) (silent : list_any (λ p. is_heard start (nodes_of nodes p)) s.graph.points ≡ false) where
  by_point : (hidden : List Word) (o : Option Point) → ((p : Point) → o ≡ Some p → Among s.graph.points p) → (state : State) → IsNoMore start state → IsNoMore start (spec.after_all hidden state (spec.assigned_by nodes o))
  by_point hidden None here state so = so
  by_point hidden (Some p) here state so = all_no_more start hidden (assigned_of nodes p) (none_of (is_given_at nodes start) s.graph.points quiet p (here p refl)) state so

  left_no_more : (hidden : List Word) (route : List ℕ) → IsNoMore start (spec.left nodes hidden start s.graph route)
  left_no_more hidden [] = λ name. inr refl
  left_no_more hidden (last ∷ earlier) =
      by_point hidden (slice_get s.graph.points last) (λ p is. got_among s.graph.points last p is) (spec.left nodes hidden start s.graph earlier) (left_no_more hidden earlier)

  and_some : (a b : Bool) → a && b ≡ false → a ≡ true → b ≡ false
  and_some true b e is = e
  and_some false b e is = absurd cc

  -- no name holds a literal before a point to which it belongs
  never : (place : ℕ) (p : Point) → slice_get s.graph.points place ≡ Some p → (n : Numbered) → Among (nodes_of nodes p) n → is_name (kind_of n.node) ≡ true → (literal : Word) → spec.Holds nodes start s place (text_of n.node) literal → ⊥
  never place p here n among name literal holds_it =
      let first : is_some (start (text_of n.node)) ≡ false = and_some (is_name (kind_of n.node)) (is_some (start (text_of n.node)))
      (none_of (λ (m : Numbered). holds start m.node) (nodes_of nodes p) (none_of (λ q. is_heard start (nodes_of nodes q)) s.graph.points silent p (got_among s.graph.points place p here)) n among) name in
      let none : spec.left nodes (spec.hidden_in nodes s) start s.graph holds_it.some.0 (text_of n.node) ≡ None = still_none start (spec.left nodes (spec.hidden_in nodes s) start s.graph holds_it.some.0) (left_no_more (spec.hidden_in nodes s) holds_it.some.0) (text_of n.node) first in
      let some = holds_it.every holds_it.some.0 holds_it.some.1 in
      absurd cc

  abbrev nothing : ℕ → Word → Value
  nothing place w = None

  abbrev one : Bool → ℕ → Value → List (ℕ × Value)
  one b at v = if b then (at, v) ∷ [] else []

  same_unknown : (b c : Bool) (at : ℕ) → one b at (if c then None else None) ≡ one b at None
  same_unknown true true at = refl
  same_unknown true false at = refl
  same_unknown false c at = refl

  at_unknown : (p : Point) → flat_map unknown (nodes_of nodes p) ≡ sightings_at nodes (nothing 0) p
  at_unknown p = ap (λ f. flat_map f (nodes_of nodes p)) (λ i n. sym (same_unknown (is_name (kind_of n.node)) (is_in (spec.target_numbers nodes p) n.at) n.at) i)

  from_unknown : (k : ℕ) (ps : List Point) → all_unknown nodes ps ≡ sightings_from nodes nothing k ps
  from_unknown k [] = refl
  from_unknown k (p ∷ ps) = ap (λ gs. gs ++ all_unknown nodes ps) (at_unknown p) ∙ ap (λ gs. sightings_at nodes (nothing 0) p ++ gs) (from_unknown (suc k) ps)

  -- the names of the unit, of which nothing is known, are what was seen
  pub idle_adds : (old new : List (ℕ × Value)) → new ≡ old ++ all_unknown nodes s.graph.points → AddsSeen nodes start s old new
  idle_adds old new is =
      adds_seen nodes start s nothing (λ place p here n among name literal. (λ e. absurd cc, λ h. absurd (never place p here n among name literal h.1))) old new
      (is ∙ ap (λ gs. old ++ gs) (from_unknown 0 s.graph.points))

-- ---- loops that look for one

module _ {X Y : Type 0} (f : X → Y) (test : Y → Bool) where
  any_app : (xs ys : List Y) → list_any test (xs ++ ys) ≡ list_any test xs || list_any test ys
  any_app [] ys = refl
  any_app (x ∷ xs) ys = either (test x) (list_any test (xs ++ ys)) (list_any test xs) (list_any test ys) (any_app xs ys)
    where
      either : (a b c d : Bool) → b ≡ c || d → a || b ≡ (a || c) || d
      either true b c d e = refl
      either false b c d e = e

  any_map : (xs : List X) → list_any test (map f xs) ≡ list_any (λ x. test (f x)) xs
  any_map [] = refl
  any_map (x ∷ xs) = ap (λ b. test (f x) || b) (any_map xs)

  -- one item passes
  pub any_found : (xs : List X) (ys : List Y) (i : ℕ) (x : X) → i < length xs → x ≡ get_or xs i x → map f xs ≡ ys → test (f x) ≡ true → true ≡ list_any test ys
  any_found xs ys i x lt is all pass = sym (sym (ap (list_any test) all) ∙ any_map xs ∙ at xs i lt is)
    where
      at : (zs : List X) (k : ℕ) → k < length zs → x ≡ get_or zs k x → list_any (λ z. test (f z)) zs ≡ true
      at [] k lt is = absurd (omega (arith, lt))
      at (z ∷ zs) zero lt is = ap (λ b. b || list_any (λ y. test (f y)) zs) (ap (λ y. test (f y)) (sym is) ∙ pass)
      at (z ∷ zs) (suc k) lt is = right (test (f z)) (at zs k (omega (arith, lt)) is)
        where
          right : (a : Bool) → list_any (λ y. test (f y)) zs ≡ true → a || list_any (λ y. test (f y)) zs ≡ true
          right true e = refl
          right false e = e

  -- one that is copied does
  pub any_copied : (xs : List X) (ys : List Y) (i : ℕ) (d : X) → i < length xs → map f xs ≡ ys → test (f (get_or xs i d)) ≡ true → true ≡ list_any test ys
  any_copied xs ys i d lt all pass = any_found xs ys i (get_or xs i d) lt (get_or_default xs i d (get_or xs i d) lt) all pass

  -- one item more that doesn't
  pub none_seen : (xs : List X) (i : ℕ) (x : X) → i < length xs → x ≡ get_or xs i x → list_any test (map f (take i xs)) ≡ false → test (f x) ≡ false → list_any test (map f (take (i + 1) xs)) ≡ false
  none_seen xs i x lt is before none = any_map (take (i + 1) xs) ∙ none_more (λ y. test (f y)) xs i x lt is (sym (any_map (take i xs)) ∙ before) none

  -- no item passed
  pub any_none : (xs : List X) (ys : List Y) (i : ℕ) → length xs ≤ i → map f xs ≡ ys → list_any (λ x. test (f x)) (take i xs) ≡ false → false ≡ list_any test ys
  any_none xs ys i le all none = sym (sym (ap (list_any test) all) ∙ any_map xs ∙ sym (ap (list_any (λ x. test (f x))) (take_all i xs le)) ∙ none)

module _ {X : Type 0} (test : X → Bool) where
  -- one item more, which is copied, and doesn't pass
  pub none_next : (xs : List X) (i : ℕ) (d : X) → i < length xs → list_any test (take i xs) ≡ false → test (get_or xs i d) ≡ false → list_any test (take (i + 1) xs) ≡ false
  none_next xs i d lt before none = none_more test xs i (get_or xs i d) lt (get_or_default xs i d (get_or xs i d) lt) before none

  -- one that passes
  pub any_next : (xs : List X) (ys : List X) (i : ℕ) (d : X) → i < length xs → xs ≡ ys → test (get_or xs i d) ≡ true → true ≡ list_any test ys
  any_next xs ys i d lt are pass = sym (ap (list_any test) (sym are) ∙ at xs i lt pass)
    where
      at : (zs : List X) (k : ℕ) → k < length zs → test (get_or zs k d) ≡ true → list_any test zs ≡ true
      at [] k lt pass = absurd (omega (arith, lt))
      at (z ∷ zs) zero lt pass = ap (λ b. b || list_any test zs) pass
      at (z ∷ zs) (suc k) lt pass = right (test z) (at zs k (omega (arith, lt)) pass)
        where
          right : (a : Bool) → list_any test zs ≡ true → a || list_any test zs ≡ true
          right true e = refl
          right false e = e

  -- none passed
  pub none_left : (xs : List X) (i : ℕ) (ys : List X) → length xs ≤ i → xs ≡ ys → list_any test (take i xs) ≡ false → false ≡ list_any test ys
  none_left xs i ys le are none = sym (ap (list_any test) (sym are) ∙ sym (ap (list_any test) (take_all i xs le)) ∙ none)

-- one item more of a loop that adds the items, which are copied
pub pushed_copy : {X Y : Type 0} (f : X → Y) (xs : List X) (i : ℕ) (d : X) (first : List Y) (old new : List X) → i < length xs
    → map f old ≡ first ++ map f (take i xs) → new ≡ old ++ get_or xs i d ∷ [] → map f new ≡ first ++ map f (take (i + 1) xs)
pushed_copy f xs i d first old new lt old_is new_is = pushed_more f xs i (get_or xs i d) first old new lt (get_or_default xs i d (get_or xs i d) lt) old_is new_is
