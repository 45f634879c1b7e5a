-- The names that a point may taint are names of the census.
use Rattle.std.proofs.Common.{◌≡◌, ◌↔◌, inl, inr, ℕ, zero, suc, ◌+◌, Bool, true, false, if◌then◌else◌, List, [], ◌∷◌, map, take, drop, refl, sym, ap, ◌∙◌, subst}
use Rattle.std.specs.Prelude.{IsTrue, ◌||◌, codes, slice_get, Option, Some, None}
use Rattle.std.specs.List.{flat_map}
use Rattle.std.specs.Str.{bytes_eq}
use Rattle.node_tree.specs.declared.kind.Kind.{Kind}
use Rattle.node_tree.specs.declared.kind.Kind.TheVariants as kinds
use Rattle.node_tree.specs.declared.node.Node.{Node}
use Rattle.node_tree.specs.declared.span.Span.{Span}
use Rattle.node_tree.specs.Numbers.{Numbered, kids_at}
use Rattle.node_tree.specs.Tree.{kind_of, text_of, pre_of, kids_of}
use Rattle.graph_form.specs.declared.graph.Point.{Point}
use Rattle.graph_form.specs.declared.graph.Role.{Role}
use Rattle.graph_form.specs.declared.graph.Role.TheVariants as roles
use Rattle.graph_form.specs.Sets.{Among}
use Rattle.graph_form.proofs.Amongs.{among_app}
use Rattle.flow_reach.proofs.Sorted.{among_got}
use Rattle.point_nodes.specs.Tops.{part, node_at, holds_statements, tops_of, nodes_of}
use Rattle.assignments.specs.declared.assignment.Manner.{Manner}
use Rattle.assignments.specs.declared.assignment.Manner.TheVariants as manners
use Rattle.assignments.specs.declared.assignment.Reach.{Reach}
use Rattle.assignments.specs.declared.assignment.Reach.TheVariants as reaches
use Rattle.assignments.specs.Assignments.{assigned, annotated, variable, operated, steps, unvalued_by, assigned_by, assigned_at, assigned_in, is_fields, holder_at, assigned_of, names_in}
use Rattle.assignments.specs.Declarators.{parameters_of}
use Rattle.assignments.specs.Seen.{Named, Assigned}
use Rattle.assignments.specs.Targets.{is_name, leading, unless_base, below, targets}
use Rattle.assignments.proofs.Postorder.{assigned_in_is}
use Rattle.assignments.proofs.Targets.{targets_name, targets_other}
use Rattle.taint_tables.specs.declared.census.Census.{Census}
use Rattle.taint_tables.specs.Censuses.{IsCensus, texts_of}
use Rattle.taint_tables.specs.Numbers.{numbers_of}
use Rattle.taint_tables.specs.Names.{are_variables, name_of, variables_of, names_at, names_among}
use Rattle.taint_plan.specs.Spreading.{IsExpressionAt}
use Rattle.taint_plan.proofs.Below.{among_flat, by_kids, pre_here, pre_kid, siblings_in, below_top, below_more, stands_below}
use Rattle.taint_flow.proofs.Spread.{IsKnown, AreKnown}

-- ---- what has a value is given to variables

abbrev IsPlain : Assigned → Type 0
IsPlain a = (value : Node) → a.value ≡ Some value → are_variables a.manner ≡ true

abbrev ArePlain : List Assigned → Type 0
ArePlain list = (a : Assigned) → Among list a → IsPlain a

plain_nothing : ArePlain []
plain_nothing a none = absurd none

plain_assigned : (manner : Manner) (value : Option Node) (names : List Named) → ((v : Node) → value ≡ Some v → are_variables manner ≡ true) → ArePlain (assigned manner value names)
plain_assigned manner value [] is a none = absurd none
plain_assigned manner value (name ∷ names) is a (inl e) = subst IsPlain e is
plain_assigned manner value (name ∷ names) is a (inr none) = absurd none

plain_none : (manner : Manner) (names : List Named) → ArePlain (assigned manner None names)
plain_none manner names = plain_assigned manner None names (λ v e. absurd cc)

plain_chosen : (b : Bool) (list : List Assigned) → ArePlain list → ArePlain (if b then list else [])
plain_chosen true list all = all
plain_chosen false list all = plain_nothing

plain_unless : (b : Bool) (list : List Assigned) → ArePlain list → ArePlain (if b then [] else list)
plain_unless true list all = plain_nothing
plain_unless false list all = all

plain_operated : (text : List ℕ) → are_variables (operated text) ≡ true
plain_operated text = by_test (bytes_eq text (codes "="))
  where
    by_test : (b : Bool) → are_variables (if b then manners.Expression else manners.Augmented) ≡ true
    by_test true = refl
    by_test false = refl

plain_annotated : (value : Option Node) (names : List Named) → ArePlain (annotated value names)
plain_annotated None names = plain_nothing
plain_annotated (Some value) names = plain_assigned manners.Statement (Some value) names (λ v e. refl)

plain_variable : (value : Option Node) (names : List Named) → ArePlain (variable value names)
plain_variable None names = plain_none manners.Declared names
plain_variable (Some value) names = plain_assigned manners.Statement (Some value) names (λ v e. refl)

plain_unvalued : (kind : Kind) (text : List ℕ) (kids : List Numbered) → ArePlain (unvalued_by kind text kids)
plain_unvalued kinds.Unary text kids = plain_chosen (steps text) _ (plain_none manners.Stepped (names_in (part 0 kids)))
plain_unvalued kinds.Postfix text kids = plain_chosen (steps text) _ (plain_none manners.Stepped (names_in (part 0 kids)))
plain_unvalued kinds.Del text kids = plain_none _ _
plain_unvalued kinds.Alias text kids = plain_none _ _
plain_unvalued kinds.Handler text kids = plain_none _ _
plain_unvalued kinds.FunctionDef text kids = plain_none _ _
plain_unvalued kinds.ClassDef text kids = plain_none _ _
plain_unvalued kinds.FuncDef text kids = plain_none _ _
plain_unvalued _ text kids = plain_nothing

plain_by : (field : Bool) (kind : Kind) (text : List ℕ) (kids : List Numbered) → ArePlain (assigned_by field kind text kids)
plain_by field kinds.Assign text kids = plain_assigned manners.Statement _ _ (λ v e. refl)
plain_by field kinds.AnnAssign text kids = plain_annotated _ _
plain_by field kinds.AugAssign text kids = plain_assigned manners.Augmented _ _ (λ v e. refl)
plain_by field kinds.AssignE text kids = plain_assigned (operated text) _ _ (λ v e. plain_operated text)
plain_by field kinds.Walrus text kids = plain_assigned manners.Expression _ _ (λ v e. refl)
plain_by field kinds.Var text kids = plain_unless field _ (plain_variable _ _)
plain_by field kinds.For text kids = plain_assigned manners.Drawn _ _ (λ v e. refl)
plain_by field kinds.WithItem text kids = plain_assigned manners.Drawn _ _ (λ v e. refl)
plain_by field kind text kids = plain_unvalued kind text kids

plain_in : (field : Bool) (s : Numbered) → ArePlain (assigned_in field s)
plain_in field s = by_kids (λ n. (at : ℕ) (b : Bool) → ArePlain (assigned_in b (record { at = at; node = n }))) (λ n ih at b a among.
    let here : Numbered = record { at = at; node = n } in
    let down = b || is_fields (kind_of n) in
    let P : List Assigned → Type 0 = λ list. Among list a in
    elim ((among_app (flat_map (assigned_in down) (kids_at here)) (assigned_at b here) a).0 (subst P (assigned_in_is b here) among)) [
      | inl kids ↦
          let (k, kid, is) = (among_flat (assigned_in down) (kids_at here) a).0 kids in
          ih k.node (siblings_in (at + 1) (kids_of n) k kid) k.at down a is
      | inr own ↦ plain_by b (kind_of n) (text_of n) (kids_at here) a own
    ]) s.node s.at field

plain_holder : (role : Role) (s : Option Numbered) → ArePlain (holder_at role s)
plain_holder role None = plain_nothing
plain_holder roles.Head (Some s) = plain_chosen (holds_statements (kind_of s.node)) (assigned_at false s) (plain_by false (kind_of s.node) (text_of s.node) (kids_at s))
plain_holder _ (Some s) = plain_nothing

plain_of : (nodes : List Node) (p : Point) → ArePlain (assigned_of nodes p)
plain_of nodes p a among =
    elim ((among_app (flat_map (assigned_in false) (tops_of nodes p)) (holder_at p.role (node_at nodes p.node)) a).0 among) [
      | inl below ↦ let (top, there, is) = (among_flat (assigned_in false) (tops_of nodes p) a).0 below in plain_in false top a is
      | inr own ↦ plain_holder p.role (node_at nodes p.node) a own
    ]

-- ---- the name of a target stands below it

pub take_within : {X : Type 0} (k : ℕ) (xs : List X) (x : X) → Among (take k xs) x → Among xs x
take_within zero xs x none = absurd none
take_within (suc k) [] x none = absurd none
take_within (suc k) (y ∷ ys) x (inl e) = inl e
take_within (suc k) (y ∷ ys) x (inr more) = inr (take_within k ys x more)

drop_within : {X : Type 0} (k : ℕ) (xs : List X) (x : X) → Among (drop k xs) x → Among xs x
drop_within zero xs x there = there
drop_within (suc k) [] x none = absurd none
drop_within (suc k) (y ∷ ys) x there = inr (drop_within k ys x there)

pub part_within : {X : Type 0} (k : ℕ) (xs : List X) (x : X) → Among (part k xs) x → Among xs x
part_within k xs x there = drop_within k xs x (take_within 1 (drop k xs) x there)

unless_within : (reach : Reach) (ss : List Numbered) (s : Numbered) → Among (unless_base reach ss) s → Among ss s
unless_within reaches.Base ss s none = absurd none
unless_within _ ss s there = there

star_within : (star : Bool) (ss : List Numbered) (s : Numbered) → Among (if star then part 0 ss else []) s → Among ss s
star_within true ss s there = part_within 0 ss s there
star_within false ss s none = absurd none

leading_within : (reach : Reach) (kind : Kind) (text : List ℕ) (ss : List Numbered) (s : Numbered) → Among (leading reach kind text ss) s → Among ss s
leading_within reach kinds.Tuple text ss s there = unless_within reach ss s there
leading_within reach kinds.ListLit text ss s there = unless_within reach ss s there
leading_within reach kinds.Star text ss s there = unless_within reach ss s there
leading_within reach kinds.Attr text ss s there = part_within 0 ss s there
leading_within reach kinds.Sub text ss s there = part_within 0 ss s there
leading_within reach kinds.Unary text ss s there = star_within (bytes_eq text (codes "*")) ss s there
leading_within reach kinds.Cast text ss s there = part_within 1 ss s there
leading_within reach _ text ss s none = absurd none

-- a node in the tree is a name with that text
pub record IsWritten (n : Node) (name : List ℕ) : Type 0 where
  pub word : Node
  pub within : Among (pre_of n) word
  pub is : IsTrue (is_name (kind_of word))
  pub text : text_of word ≡ name

abbrev pub AllWritten : Node → Type 0
AllWritten n = (at : ℕ) (reach : Reach) (t : Named) → Among (targets reach (record { at = at; node = n })) t → IsWritten n t.name

written_by : (n : Node) → ((k : Node) → Among (kids_of n) k → AllWritten k) → (at : ℕ) (reach : Reach) (t : Named) → (b : Bool) → is_name (kind_of n) ≡ b → Among (targets reach (record { at = at; node = n })) t → IsWritten n t.name
written_by n ih at reach t true is among =
    let P : List Named → Type 0 = λ ts. Among ts t in
    elim (subst P (targets_name reach (record { at = at; node = n }) is) among) [
      | inl e ↦ record { word = n; within = pre_here n; is = is; text = ap (λ (z : Named). z.name) e }
      | inr none ↦ absurd none
    ]
written_by n ih at reach t false other among =
    let here : Numbered = record { at = at; node = n } in
    let lead = leading reach (kind_of n) (text_of n) (kids_at here) in
    let P : List Named → Type 0 = λ ts. Among ts t in
    let (k, led, is) = (among_flat (targets (below (kind_of n))) lead t).0 (subst P (targets_other reach here other) among) in
    let kid = siblings_in (at + 1) (kids_of n) k (leading_within reach (kind_of n) (text_of n) (kids_at here) k led) in
    let w = ih k.node kid k.at (below (kind_of n)) t is in
    record { word = w.word; within = pre_kid n k.node w.word kid w.within; is = w.is; text = w.text }

pub written : (n : Node) → AllWritten n
written = by_kids AllWritten (λ n ih at reach t among. written_by n ih at reach t (is_name (kind_of n)) refl among)

-- ---- all these names have facts

-- the names of a census are those at these points and of the parameters of the unit, and have numbers
pub record HasNames (nodes : List Node) (unit : ℕ) (points : List Point) (census : Census) : Type 0 where
  pub has : (n : List ℕ) → Among (texts_of census) n ↔ Among (names_among nodes unit points) n
  pub number : (n : List ℕ) (i : ℕ) → ((numbers_of census).name n ≡ Some i) ↔ (slice_get (texts_of census) i ≡ Some n)

pub names_from : (nodes : List Node) (unit : ℕ) (points : List Point) (sources : List Span) (census : Census) → IsCensus nodes unit points sources census → HasNames nodes unit points census
names_from nodes unit points sources census is = record { has = is.has_names; number = is.numbered.names }

chosen : (b : Bool) (xs : List (List ℕ)) (x : List ℕ) → b ≡ true → Among xs x → Among (if b then xs else []) x
chosen true xs x e there = there
chosen false xs x e there = absurd cc

target_named : (ts : List Named) (t : Named) → Among ts t → Among (map (λ (z : Named). z.name) ts) t.name
target_named [] t none = absurd none
target_named (u ∷ us) t (inl e) = inl (ap (λ (z : Named). z.name) e)
target_named (u ∷ us) t (inr more) = inr (target_named us t more)

text_named : (ss : List Numbered) (s : Numbered) → Among ss s → Among (map (λ (z : Numbered). text_of z.node) ss) (text_of s.node)
text_named [] s none = absurd none
text_named (u ∷ us) s (inl e) = inl (ap (λ (z : Numbered). text_of z.node) e)
text_named (u ∷ us) s (inr more) = inr (text_named us s more)

module _ (nodes : List Node) (unit : ℕ) (points : List Point) (census : Census) (names : HasNames nodes unit points census) where
  known : (n : List ℕ) → Among (names_among nodes unit points) n → IsKnown (numbers_of census) n
  known n among =
      let (i, got) = among_got (texts_of census) n ((names.has n).1 among) in
      ((numbers_of census).sources + i, (i, (names.number n i).1 got, refl))

  known_at : (p : Point) → Among points p → (n : List ℕ) → Among (names_at nodes p) n → IsKnown (numbers_of census) n
  known_at p there n among =
      known n ((among_app (flat_map (names_at nodes) points) (map (λ (s : Numbered). text_of s.node) (parameters_of nodes unit)) n).1 (inl ((among_flat (names_at nodes) points n).1 (p, there, among))))

  -- the targets of what is given a value
  pub assigned_known : (p : Point) → Among points p → AreKnown (numbers_of census) (assigned_of nodes p)
  assigned_known p there a among value given t target =
      known_at p there t.name ((among_app (flat_map name_of (nodes_of nodes p)) (flat_map variables_of (assigned_of nodes p)) t.name).1 (inr ((among_flat variables_of (assigned_of nodes p) t.name).1 (
        a,
        among,
        chosen (are_variables a.manner) (map (λ (z : Named). z.name) a.targets) t.name (plain_of nodes p a among value given) (target_named a.targets t target),
      ))))

  -- the bases of expressions
  pub carried_known : (p : Point) → Among points p → (range : Span) (t : Numbered) → IsExpressionAt (nodes_of nodes p) range t → (b : Named) → Among (targets reaches.Base t) b → IsKnown (numbers_of census) b.name
  carried_known p there range t at b base =
      let w = written t.node t.at reaches.Base b base in
      let (s, among, same) = stands_below (tops_of nodes p) w.word (below_more (tops_of nodes p) t.node w.word (below_top (tops_of nodes p) t at.there) w.within) in
      let P : Node → Type 0 = λ z. is_name (kind_of z) ≡ true in
      known_at p there b.name ((among_app (flat_map name_of (nodes_of nodes p)) (flat_map variables_of (assigned_of nodes p)) b.name).1 (inl ((among_flat name_of (nodes_of nodes p) b.name).1 (
        s,
        among,
        chosen (is_name (kind_of s.node)) (text_of s.node ∷ []) b.name (subst P (sym same) w.is) (inl (ap text_of same ∙ w.text)),
      ))))

  -- parameters
  pub parameter_known : (s : Numbered) → Among (parameters_of nodes unit) s → IsKnown (numbers_of census) (text_of s.node)
  parameter_known s among =
      known (text_of s.node) ((among_app (flat_map (names_at nodes) points) (map (λ (z : Numbered). text_of z.node) (parameters_of nodes unit)) (text_of s.node)).1 (inr (text_named (parameters_of nodes unit) s among)))
