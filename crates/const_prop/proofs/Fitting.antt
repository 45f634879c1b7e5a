-- The effects of a unit fit its graph.
use Rattle.std.proofs.Common.{◌≡◌, ◌⊎◌, inl, inr, ℕ, ◌<◌, ◌≤◌, Bool, true, false, List, [], ◌∷◌, length, map, refl, sym, subst, arith, Some}
use Rattle.std.specs.Prelude.{Option, None, ◌^◌, if◌then◌else◌}
use Rattle.std.specs.List.{flat_map}
use Rattle.std.proofs.lemmas.List.{length-map}
use Rattle.std.proofs.lemmas.Option.{slice_get_within}
use Rattle.node_tree.specs.declared.node.Node.{Node}
use Rattle.node_tree.specs.Kinds.{is_literal}
use Rattle.node_tree.specs.Tree.{kind_of}
use Rattle.graph_form.specs.declared.graph.Graph.{Graph}
use Rattle.graph_form.specs.Sets.{Among}
use Rattle.graph_form.proofs.Amongs.{among_app}
use Rattle.flow_graph.specs.Units.{points_of, Goes, IsGraphOf, entry_of}
use Rattle.assignments.specs.declared.assignment.Manner.{Manner}
use Rattle.assignments.specs.declared.assignment.Manner.TheVariants as manners
use Rattle.assignments.specs.declared.assignment.Reach.{Reach}
use Rattle.assignments.specs.declared.assignment.Reach.TheVariants as reaches
use Rattle.assignments.specs.Assignments.{assigned_of}
use Rattle.assignments.specs.Seen.{Named, Assigned}
use Rattle.assignments.specs.Targets.{is_name}
use Rattle.held_values.specs.declared.assign.Assign.{Assign}
use Rattle.held_values.specs.declared.assign.Source.{Source}
use Rattle.held_values.specs.declared.assign.Source.TheVariants.{Sets, Copies}
use Rattle.held_values.specs.Holding.{Fits, AreInside, AreAllInside, AreKnown}
use Rattle.unit_names.specs.declared.scope.Scope.{Scope}
use Rattle.unit_names.specs.Names.{is_assigned}
use Rattle.unit_names.specs.Words.{Word, word_of, name_word, place_of}
use Rattle.unit_names.proofs.WordPlaces.{place_less}
use Rattle.unit_effects.specs.Fixed.{Value, State}
use Rattle.const_prop.specs.Sights.{IsWhole}
use Rattle.unit_effects.specs.Numbering.{number_by, number_of, copied, source_given, source_gets, assigned_to, target_assigns, one_assigns, effects_of}

-- a source is of names and literals that are there
pub record IsThere (names literals : ℕ) (source : Source) : Type 0 where
  pub copies : (k : ℕ) → source ≡ Copies k → k < names
  pub sets : (v : ℕ) → source ≡ Sets v → v ≤ literals

number_small : (literals : List Word) (w : Word) (o : Option ℕ) → place_of literals w ≡ o → number_by o ≤ length literals
number_small literals w None e = omega arith
number_small literals w (Some k) e = let less = place_less literals w k e in omega (arith, less)

value_small : (literals : List Word) (v : Value) → number_of literals v ≤ length literals
value_small literals None = omega arith
value_small literals (Some w) = number_small literals w (place_of literals w) refl

among_map : {X Y : Type 0} (f : X → Y) (P : Y → Type 0) → ((x : X) → P (f x)) → (xs : List X) (y : Y) → Among (map f xs) y → P y
among_map f P all [] y among = absurd among
among_map f P all (x ∷ xs) y (inl is) = subst P is (all x)
among_map f P all (x ∷ xs) y (inr among) = among_map f P all xs y among

some_item : {X : Type 0} (xs : List X) (x : X) → Among xs x → 0 < length xs
some_item [] x among = absurd among
some_item (y ∷ ys) x among = omega arith

-- the graph of a unit is whole
pub is_whole : (root : Node) (unit : ℕ) (graph : Graph) → IsGraphOf (points_of root unit) (Goes root unit) graph → IsWhole graph
is_whole root unit graph is = record {
  entry = some_item graph.points (entry_of unit) ((is.points (entry_of unit)).1 (inl refl));
  few = is.few;
  edges = λ from to edge. (let e = (is.edges from to).0 edge in (slice_get_within graph.points from e.0 e.1, slice_get_within graph.points to e.2 e.3));
}

module _ (names literals : List Word) (hides : List ℕ → Bool) where
  abbrev There : Source → Type 0
  There = IsThere (length names) (length literals)

  nothing : There (Sets 0)
  nothing = record { copies = λ k e. absurd cc; sets = λ v e. let z : v ≡ 0 = cc in omega (arith, z) }

  copied_there : (w : Word) (o : Option ℕ) → place_of names w ≡ o → There (copied o)
  copied_there w None e = nothing
  copied_there w (Some j) e = record { copies = λ k c. (let less = place_less names w j e in let same : j ≡ k = cc in omega (arith, less, same)); sets = λ v c. absurd cc }

  literal_there : (v : Value) → There (Sets (number_of literals v))
  literal_there v = record { copies = λ k e. absurd cc; sets = λ n e. (let small = value_small literals v in let same : number_of literals v ≡ n = cc in omega (arith, small, same)) }

  node_there : (n : Node) (a b : Bool) → There (if a then Sets (number_of literals (Some (word_of n))) else if b then copied (place_of names (word_of n)) else Sets 0)
  node_there n true b = literal_there (Some (word_of n))
  node_there n false true = copied_there (word_of n) (place_of names (word_of n)) refl
  node_there n false false = nothing

  given_there : (manner : Manner) (value : Option Node) → There (source_given names literals manner value)
  given_there manners.Statement None = nothing
  given_there manners.Statement (Some n) = node_there n (is_literal (kind_of n)) (is_name (kind_of n))
  given_there manners.Expression None = nothing
  given_there manners.Expression (Some n) = node_there n (is_literal (kind_of n)) (is_name (kind_of n))
  given_there manners.Augmented value = nothing
  given_there manners.Drawn value = nothing
  given_there manners.Stepped value = nothing
  given_there manners.Deleted value = nothing
  given_there manners.Imported value = nothing
  given_there manners.Caught value = nothing
  given_there manners.Defined value = nothing
  given_there manners.Declared value = nothing

  got_there : (hidden : Bool) (reach : Reach) (source : Source) → There source → There (source_gets hidden reach source)
  got_there true reach source there = nothing
  got_there false reaches.Whole source there = there
  got_there false reaches.Part source there = nothing
  got_there false reaches.Base source there = nothing

  -- all assignments of a list are to names that are there, from what is there
  abbrev AllThere : List Assign → Type 0
  AllThere xs = (x : Assign) → Among xs x → (x.name < length names) × There x.source

  to_there : (w : Word) (o : Option ℕ) → place_of names w ≡ o → (source : Source) → There source → AllThere (assigned_to o source)
  to_there w None e source there x among = absurd among
  to_there w (Some k) e source there x (inl is) = subst (λ (y : Assign). (y.name < length names) × There y.source) is (place_less names w k e, there)
  to_there w (Some k) e source there x (inr among) = absurd among

  target_there : (b : Bool) (t : Named) (source : Source) → There source → AllThere (if b then assigned_to (place_of names (name_word t.name)) (source_gets (hides t.name) t.reach source) else [])
  target_there true t source there x among = to_there (name_word t.name) (place_of names (name_word t.name)) refl (source_gets (hides t.name) t.reach source) (got_there (hides t.name) t.reach source there) x among
  target_there false t source there x among = absurd among

  targets_there : (source : Source) → There source → (ts : List Named) → AllThere (flat_map (target_assigns names hides source) ts)
  targets_there source there [] x among = absurd among
  targets_there source there (t ∷ ts) x among = by (targets_there source there ts) ((among_app (target_assigns names hides source t) (flat_map (target_assigns names hides source) ts) x).0 among)
    where
      by : AllThere (flat_map (target_assigns names hides source) ts) → Among (target_assigns names hides source t) x ⊎ Among (flat_map (target_assigns names hides source) ts) x → (x.name < length names) × There x.source
      by rest (inl here) = target_there (is_assigned t.reach) t source there x here
      by rest (inr later) = rest x later

  one_there : (a : Assigned) → AllThere (one_assigns names literals hides a)
  one_there a = targets_there (source_given names literals a.manner a.value) (given_there a.manner a.value) a.targets

  -- the effects of a unit with these names and literals fit its graph
  pub fits : (nodes : List Node) (start : State) (s : Scope) → IsWhole s.graph → length names < 2 ^ 32 → Fits s.graph (effects_of nodes names literals hides start s)
  fits nodes start s is small = record {
    entry = is.entry;
    few = is.few;
    names = (let size = length-map names (λ (w : Word). number_of literals (start w.text)) in omega (arith, size, small));
    edges = is.edges;
    points = length-map s.graph.points (λ p. map (one_assigns names literals hides) (assigned_of nodes p));
    start = among_map (λ (w : Word). number_of literals (start w.text)) (λ v. v ≤ length literals) (λ w. value_small literals (start w.text)) names;
    inside = among_map (λ p. map (one_assigns names literals hides) (assigned_of nodes p)) (AreAllInside (length (map (λ (w : Word). number_of literals (start w.text)) names))) (λ p. point_inside (assigned_of nodes p)) s.graph.points;
    known = among_map (λ p. map (one_assigns names literals hides) (assigned_of nodes p)) (AreKnown (length literals)) (λ p. point_known (assigned_of nodes p)) s.graph.points;
  }
    where
      size : length (map (λ (w : Word). number_of literals (start w.text)) names) ≡ length names
      size = length-map names (λ (w : Word). number_of literals (start w.text))

      point_inside : (many : List Assigned) → AreAllInside (length (map (λ (w : Word). number_of literals (start w.text)) names)) (map (one_assigns names literals hides) many)
      point_inside many = among_map (one_assigns names literals hides) (AreInside (length (map (λ (w : Word). number_of literals (start w.text)) names))) (λ a x among. (let h = one_there a x among in record { name = subst (λ n. x.name < n) (sym size) h.0; copied = λ other e. subst (λ n. other < n) (sym size) (h.1.copies other e) })) many

      point_known : (many : List Assigned) → AreKnown (length literals) (map (one_assigns names literals hides) many)
      point_known many = among_map (one_assigns names literals hides) (λ node. (x : Assign) → Among node x → (value : ℕ) → x.source ≡ Sets value → value ≤ length literals) (λ a x among value e. (one_there a x among).1.sets value e) many
