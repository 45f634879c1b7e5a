-- The names and the literals of a unit have their places.
use Rattle.std.proofs.Common.{◌≡◌, ◌⊎◌, inl, inr, ℕ, Bool, true, false, List, [], ◌∷◌, ◌++◌, refl, ap, ◌∙◌, subst, Some}
use Rattle.std.specs.Prelude.{Option, None, ◌||◌, if◌then◌else◌, slice_get}
use Rattle.std.specs.List.{flat_map}
use Rattle.std.specs.Option.{option_to_list}
use Rattle.node_tree.specs.declared.node.Node.{Node}
use Rattle.node_tree.specs.Kinds.{is_literal}
use Rattle.node_tree.specs.Numbers.{Numbered}
use Rattle.node_tree.specs.Tree.{kind_of, text_of}
use Rattle.graph_form.specs.declared.graph.Point.{Point}
use Rattle.graph_form.specs.Sets.{Among}
use Rattle.graph_form.proofs.Amongs.{among_app}
use Rattle.held_values.proofs.Concerns.{got_among}
use Rattle.point_nodes.specs.Tops.{nodes_of}
use Rattle.assignments.specs.Assignments.{assigned_of}
use Rattle.assignments.specs.Declarators.{parameters_of}
use Rattle.assignments.specs.Seen.{Named, Assigned}
use Rattle.assignments.specs.Targets.{is_name}
use Rattle.unit_names.specs.declared.scope.Scope.{Scope}
use Rattle.unit_names.specs.Names.{name_here, literal_here, target_word, target_words, plain_words, names_in, literals_in, names_at, literals_at, parameter_words, name_words, literal_words, is_assigned, has_targets}
use Rattle.unit_names.specs.Words.{Word, word_of, name_word, is_one_of, with_word, with_words}
use Rattle.unit_effects.specs.Fixed.{State}
use Rattle.const_prop.specs.Constants as spec
use Rattle.const_prop.proofs.Agreeing.{same_self}
use Rattle.const_prop.proofs.NameKinds.{name_kind}
use Rattle.const_prop.proofs.States.{HasValue}
use Rattle.const_prop.proofs.Tables.{any_left, any_right, has_place}

-- what one of the items has, all of them have
pub flat_one : {X : Type 0} (F : X → List Word) (xs : List X) (x : X) (w : Word) → Among xs x → is_one_of (F x) w ≡ true → is_one_of (flat_map F xs) w ≡ true
flat_one F [] x w among e = absurd among
flat_one F (y ∷ ys) x w (inl is) e = any_left (F y) (flat_map F ys) w (ap (λ z. is_one_of (F z) w) is ∙ e)
flat_one F (y ∷ ys) x w (inr among) e = any_right (F y) (flat_map F ys) w (flat_one F ys x w among e)

own_word : (b : Bool) (w : Word) → b ≡ true → is_one_of (if b then w ∷ [] else []) w ≡ true
own_word true w e = ap (λ b. b || false) (same_self w)
own_word false w e = absurd cc

module _ (nodes : List Node) (s : Scope) (start : State) where
  -- the value of an assignment
  name_stands : (p : Point) (a : Assigned) (n : Node) → Among s.graph.points p → Among (assigned_of nodes p) a → a.value ≡ Some n → is_name (kind_of n) ≡ true → is_one_of (name_words nodes s) (word_of n) ≡ true
  name_stands p a n here among is name =
      let w = word_of n in
      let value : is_one_of (flat_map name_here (option_to_list a.value)) w ≡ true = ap (λ o. is_one_of (flat_map name_here (option_to_list o)) w) is ∙ any_left (name_here n) [] w (own_word (is_name (kind_of n)) w name) in
      let one : is_one_of (names_in a) w ≡ true = any_right (plain_words a) (flat_map name_here (option_to_list a.value)) w value in
      let point : is_one_of (names_at nodes p) w ≡ true = any_right (flat_map (λ (t : Numbered). name_here t.node) (nodes_of nodes p)) (flat_map names_in (assigned_of nodes p)) w (flat_one names_in (assigned_of nodes p) a w among one) in
      any_left (flat_map (names_at nodes) s.graph.points) (parameter_words nodes s.unit) w (flat_one (names_at nodes) s.graph.points p w here point)

  literal_stands : (p : Point) (a : Assigned) (n : Node) → Among s.graph.points p → Among (assigned_of nodes p) a → a.value ≡ Some n → is_literal (kind_of n) ≡ true → is_one_of (literal_words nodes s) (word_of n) ≡ true
  literal_stands p a n here among is literal =
      let w = word_of n in
      let one : is_one_of (literals_in a) w ≡ true = ap (λ o. is_one_of (flat_map literal_here (option_to_list o)) w) is ∙ any_left (literal_here n) [] w (own_word (is_literal (kind_of n)) w literal) in
      let point : is_one_of (literals_at nodes p) w ≡ true = any_right (flat_map (λ (t : Numbered). literal_here t.node) (nodes_of nodes p)) (flat_map literals_in (assigned_of nodes p)) w (flat_one literals_in (assigned_of nodes p) a w among one) in
      flat_one (literals_at nodes) s.graph.points p w here point

  -- a name that stands at a point
  pub node_stands : (p : Point) (n : Numbered) → Among s.graph.points p → Among (nodes_of nodes p) n → is_name (kind_of n.node) ≡ true → is_one_of (name_words nodes s) (word_of n.node) ≡ true
  node_stands p n here among name =
      let w = word_of n.node in
      let one : is_one_of (flat_map (λ (t : Numbered). name_here t.node) (nodes_of nodes p)) w ≡ true = flat_one (λ (t : Numbered). name_here t.node) (nodes_of nodes p) n w among (own_word (is_name (kind_of n.node)) w name) in
      let point : is_one_of (names_at nodes p) w ≡ true = any_left (flat_map (λ (t : Numbered). name_here t.node) (nodes_of nodes p)) (flat_map names_in (assigned_of nodes p)) w one in
      any_left (flat_map (names_at nodes) s.graph.points) (parameter_words nodes s.unit) w (flat_one (names_at nodes) s.graph.points p w here point)

  -- the values of all assignments of a unit have their places
  pub has_value : (o : Option Point) → ((p : Point) → o ≡ Some p → Among s.graph.points p) → (a : Assigned) → Among (spec.assigned_by nodes o) a → HasValue (spec.names_of nodes s) (spec.literals_of nodes start s) a.value
  has_value None here a among = absurd among
  has_value (Some p) here a among = record {
    literal = λ n is literal. has_place (literal_words nodes s ++ flat_map (λ (w : Word). option_to_list (start w.text)) (spec.names_of nodes s)) (word_of n)
        (any_left (literal_words nodes s) (flat_map (λ (w : Word). option_to_list (start w.text)) (spec.names_of nodes s)) (word_of n) (literal_stands p a n (here p refl) among is literal));
    name = λ n is name. has_place (name_words nodes s) (word_of n) (name_stands p a n (here p refl) among is name);
  }

  pub has_values : (k : ℕ) (a : Assigned) → Among (spec.assigned_by nodes (slice_get s.graph.points k)) a → HasValue (spec.names_of nodes s) (spec.literals_of nodes start s) a.value
  has_values k a among = has_value (slice_get s.graph.points k) (λ p is. got_among s.graph.points k p is) a among

-- ---- all names are names

abbrev pub IsName : Word → Type 0
IsName w = w ≡ name_word w.text

abbrev pub AllNames : List Word → Type 0
AllNames ws = (w : Word) → Among ws w → IsName w

flat_names : {X : Type 0} (F : X → List Word) (xs : List X) → ((x : X) → AllNames (F x)) → AllNames (flat_map F xs)
flat_names F [] all w among = absurd among
flat_names F (x ∷ xs) all w among = by (flat_names F xs all) ((among_app (F x) (flat_map F xs) w).0 among)
  where
    by : AllNames (flat_map F xs) → Among (F x) w ⊎ Among (flat_map F xs) w → IsName w
    by rest (inl here) = all x w here
    by rest (inr there) = rest w there

both_names : (ws vs : List Word) → AllNames ws → AllNames vs → AllNames (ws ++ vs)
both_names ws vs a b w among = by ((among_app ws vs w).0 among)
  where
    by : Among ws w ⊎ Among vs w → IsName w
    by (inl here) = a w here
    by (inr there) = b w there

one_name : (v : Word) → IsName v → AllNames (v ∷ [])
one_name v is w (inl e) = subst IsName e is
one_name v is w (inr among) = absurd among

no_names : AllNames []
no_names w among = absurd among

if_names : (b : Bool) (v : Word) → (b ≡ true → IsName v) → AllNames (if b then v ∷ [] else [])
if_names true v is = one_name v (is refl)
if_names false v is = no_names

here_names : (n : Node) → AllNames (name_here n)
here_names n = if_names (is_name (kind_of n)) (word_of n) (λ e. let kind = name_kind (kind_of n) e in λ i. record { kind = kind i; text = text_of n })

target_names : (t : Named) → AllNames (target_word t)
target_names t = if_names (is_assigned t.reach) (name_word t.name) (λ e. refl)

plain_names : (b : Bool) (a : Assigned) → AllNames (if b then target_words a else [])
plain_names true a = flat_names target_word a.targets target_names
plain_names false a = no_names

in_names : (a : Assigned) → AllNames (names_in a)
in_names a = both_names (plain_words a) (flat_map name_here (option_to_list a.value)) (plain_names (has_targets a.manner) a) (flat_names name_here (option_to_list a.value) here_names)

at_names : (nodes : List Node) (p : Point) → AllNames (names_at nodes p)
at_names nodes p =
    both_names (flat_map (λ (t : Numbered). name_here t.node) (nodes_of nodes p)) (flat_map names_in (assigned_of nodes p)) (flat_names (λ (t : Numbered). name_here t.node) (nodes_of nodes p) (λ t. here_names t.node))
    (flat_names names_in (assigned_of nodes p) in_names)

all_names : (nodes : List Node) (s : Scope) → AllNames (name_words nodes s)
all_names nodes s =
    both_names (flat_map (names_at nodes) s.graph.points) (parameter_words nodes s.unit) (flat_names (names_at nodes) s.graph.points (at_names nodes))
    (flat_names (λ (t : Numbered). name_word (text_of t.node) ∷ []) (parameters_of nodes s.unit) (λ t. one_name (name_word (text_of t.node)) refl))

with_name : (ws : List Word) (v : Word) → AllNames ws → IsName v → AllNames (with_word ws v)
with_name ws v all is = by (is_one_of ws v)
  where
    by : (b : Bool) → AllNames (if b then ws else ws ++ v ∷ [])
    by true = all
    by false = both_names ws (v ∷ []) all (one_name v is)

with_names : (ws vs : List Word) → AllNames ws → AllNames vs → AllNames (with_words ws vs)
with_names ws [] all more = all
with_names ws (v ∷ vs) all more = with_names (with_word ws v) vs (with_name ws v all (more v (inl refl))) (λ w among. more w (inr among))

-- the names of a unit are names
pub are_names : (nodes : List Node) (s : Scope) (k : ℕ) (w : Word) → slice_get (spec.names_of nodes s) k ≡ Some w → IsName w
are_names nodes s k w e = with_names [] (name_words nodes s) no_names (all_names nodes s) w (got_among (spec.names_of nodes s) k w e)
