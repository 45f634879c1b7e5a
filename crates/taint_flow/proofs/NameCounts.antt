-- Each name of a unit is written by a node of the file that is a name.
use Rattle.std.proofs.Common.{◌≡◌, inl, inr, ℕ, zero, suc, ◌+◌, ◌≤◌, Bool, true, false, if◌then◌else◌, List, [], ◌∷◌, ◌++◌, length, map, take, drop, Some, refl, sym, ap, ◌∙◌, subst, arith, length-append}
use Rattle.std.specs.Prelude.{◌||◌, ◌-◌, Option, None, slice_get}
use Rattle.std.specs.List.{flat_map, sum_by}
use Rattle.std.specs.Option.{option_map}
use Rattle.std.specs.Set.{distinct_count}
use Rattle.std.specs.Str.{bytes_eq}
use Rattle.std.proofs.lemmas.List.Sums.{sum_by-cons}
use Rattle.std.proofs.lemmas.Slice.Eq.{bytes_eq-Decides}
use Rattle.node_tree.specs.declared.kind.Kind.{Kind}
use Rattle.node_tree.specs.declared.kind.Kind.TheVariants as kinds
use Rattle.node_tree.specs.declared.node.Node.{Node}
use Rattle.node_tree.specs.Numbers.{Numbered, kids_at, pre_at}
use Rattle.node_tree.specs.Tree.{pre_of, kind_of, text_of, kids_of}
use Rattle.graph_form.specs.declared.graph.Point.{Point}
use Rattle.graph_form.specs.declared.graph.Role.{Role}
use Rattle.graph_form.specs.declared.graph.Role.TheVariants as roles
use Rattle.graph_form.specs.Sets.{Among}
use Rattle.graph_form.proofs.Amongs.{among_app}
use Rattle.flow_reach.proofs.Sorted.{got_among}
use Rattle.flow_graph.specs.Units.{points_of}
use Rattle.point_nodes.specs.Tops.{part, node_at, defaults_of, head_by, tops_at, tops_by, tops_of, nodes_of, holds_statements}
use Rattle.assignments.specs.declared.assignment.Manner.{Manner}
use Rattle.assignments.specs.declared.assignment.Manner.TheVariants as manners
use Rattle.assignments.specs.declared.assignment.Reach.TheVariants as reaches
use Rattle.assignments.specs.Assignments.{assigned, annotated, variable, value_of, operated, steps, names_in, whole_names, unvalued_by, assigned_by, assigned_at, assigned_in, is_fields, holder_at, assigned_of}
use Rattle.assignments.specs.Declarators.{is_id, id_of, within, declared, is_around_id, signature, python_names, c_names, parameters_by, parameters_at, parameters_of}
use Rattle.assignments.specs.Seen.{Named, Assigned}
use Rattle.assignments.specs.Targets.{is_name, name_here, targets}
use Rattle.assignments.proofs.Declarators.{declared_id, declared_other, signature_here, signature_other}
use Rattle.assignments.proofs.Postorder.{assigned_in_is}
use Rattle.taint_tables.specs.Names.{are_variables, name_of, variables_of, names_at as point_names}
use Rattle.taint_flow.specs.Bounds.{own_names, names_at}
use Rattle.taint_flow.specs.Sizes.{names_of}
use Rattle.taint_plan.proofs.Below.{among_flat, by_kids, pre_here, pre_kid, pre_in, numbered_in, siblings_in}
use Rattle.taint_flow.proofs.Counted.{counted_within}
use Rattle.taint_flow.proofs.KnownNames.{written, take_within, part_within}

-- ---- nodes that stand in a tree

abbrev AllIn : (Node → Type 0) → Node → List Numbered → Type 0
AllIn P n ss = (s : Numbered) → Among ss s → Among (pre_of n) s.node × P s.node

abbrev Any : Node → Type 0
Any n = Unit {0}

abbrev IsId : Node → Type 0
IsId n = is_id (kind_of n) ≡ true

none_in : (P : Node → Type 0) (n : Node) → AllIn P n []
none_in P n s none = absurd none

own_in : (P : Node → Type 0) (s : Numbered) → P s.node → AllIn P s.node (s ∷ [])
own_in P s is t (inl e) = let Q : Numbered → Type 0 = λ z. Among (pre_of s.node) z.node × P z.node in subst Q e (pre_here s.node, is)
own_in P s is t (inr none) = absurd none

kids_in : (s : Numbered) → AllIn Any s.node (kids_at s)
kids_in s k there = let kid = siblings_in (s.at + 1) (kids_of s.node) k there in (pre_kid s.node k.node k.node kid (pre_here k.node), tt)

nodes_in : (s : Numbered) → AllIn Any s.node (pre_at s)
nodes_in s k there = (numbered_in s.at (pre_of s.node) k there, tt)

module _ (P : Node → Type 0) (n : Node) where
  part_in : (k : ℕ) (ss : List Numbered) → AllIn P n ss → AllIn P n (part k ss)
  part_in k ss all s there = all s (part_within k ss s there)

  both_in : (xs ys : List Numbered) → AllIn P n xs → AllIn P n ys → AllIn P n (xs ++ ys)
  both_in xs ys first second s there = elim ((among_app xs ys s).0 there) [ inl a ↦ first s a | inr b ↦ second s b ]

  flat_in : (f : Numbered → List Numbered) (ss : List Numbered) → AllIn Any n ss → ((s : Numbered) → Among ss s → AllIn P s.node (f s)) → AllIn P n (flat_map f ss)
  flat_in f ss all each t there =
      let (s, among, is) = (among_flat f ss t).0 there in
      let r = each s among t is in
      (pre_in n s.node t.node (all s among).0 r.0, r.1)

within_kids : (kind : Kind) (ss : List Numbered) (s : Numbered) → Among (within kind ss) s → Among ss s
within_kids kinds.Ptr ss s there = part_within 0 ss s there
within_kids kinds.ArrayOf ss s there = part_within 0 ss s there
within_kids kinds.FuncOf ss s there = part_within 0 ss s there
within_kids _ ss s none = absurd none

-- what a function gives at a node, if it is what it gives at the nodes within
module _ (P : Node → Type 0) (f : Numbered → List Numbered) (test : Numbered → Bool) (here : (s : Numbered) → test s ≡ true → AllIn P s.node (f s)) (other : (s : Numbered) → test s ≡ false → f s ≡ flat_map f (within (kind_of s.node) (kids_at s))) where
  inner_in : (s : Numbered) → AllIn P s.node (f s)
  inner_in s = by_kids (λ n. (at : ℕ) → AllIn P n (f (record { at = at; node = n }))) step s.node s.at
    where
      step : (n : Node) → ((k : Node) → Among (kids_of n) k → (at : ℕ) → AllIn P k (f (record { at = at; node = k }))) → (at : ℕ) → AllIn P n (f (record { at = at; node = n }))
      step n ih at = by (test own) refl
        where
          own : Numbered
          own = record { at = at; node = n }

          by : (b : Bool) → test own ≡ b → AllIn P n (f own)
          by true is = here own is
          by false is =
              let ss = within (kind_of n) (kids_at own) in
              let Q : List Numbered → Type 0 = AllIn P n in
              subst Q (sym (other own is)) (flat_in P n f ss (λ k there. kids_in own k (within_kids (kind_of n) (kids_at own) k there)) (λ k there. ih k.node (siblings_in (at + 1) (kids_of n) k (within_kids (kind_of n) (kids_at own) k there)) k.at))

declared_in : (s : Numbered) → AllIn IsId s.node (declared s)
declared_in = inner_in IsId declared (λ s. is_id (kind_of s.node)) (λ s is. (let Q : List Numbered → Type 0 = AllIn IsId s.node in subst Q (sym (declared_id s is)) (own_in IsId s is))) declared_other

signature_in : (s : Numbered) → AllIn Any s.node (signature s)
signature_in = inner_in Any signature (λ s. is_around_id (kind_of s.node) (kids_at s)) (λ s is. (let Q : List Numbered → Type 0 = AllIn Any s.node in subst Q (sym (signature_here s is)) (part_in Any s.node 1 (kids_at s) (kids_in s)))) signature_other

id_in : (s : Numbered) → AllIn IsId s.node (id_of s)
id_in s = by (is_id (kind_of s.node)) refl
  where
    by : (b : Bool) → is_id (kind_of s.node) ≡ b → AllIn IsId s.node (if b then s ∷ [] else [])
    by true is = own_in IsId s is
    by false is = none_in _ _

-- ---- tops and parameters

grandkids_in : (s : Numbered) (k : ℕ) → AllIn Any s.node (flat_map kids_at (part k (kids_at s)))
grandkids_in s k = flat_in Any s.node kids_at (part k (kids_at s)) (part_in Any s.node k (kids_at s) (kids_in s)) (λ t there. kids_in t)

head_in : (kind : Kind) (s : Numbered) → AllIn Any s.node (head_by kind s (kids_at s))
head_in kinds.If s = part_in Any s.node 0 (kids_at s) (kids_in s)
head_in kinds.While s = part_in Any s.node 0 (kids_at s) (kids_in s)
head_in kinds.DoWhile s = part_in Any s.node 1 (kids_at s) (kids_in s)
head_in kinds.For s = both_in Any s.node (part 0 (kids_at s)) (part 1 (kids_at s)) (part_in Any s.node 0 (kids_at s) (kids_in s)) (part_in Any s.node 1 (kids_at s) (kids_in s))
head_in kinds.ForC s = none_in _ _
head_in kinds.Switch s = part_in Any s.node 0 (kids_at s) (kids_in s)
head_in kinds.With s = part_in Any s.node 0 (kids_at s) (kids_in s)
head_in kinds.Try s = none_in _ _
head_in kinds.Handler s = both_in Any s.node (part 0 (kids_at s)) (part 1 (kids_at s)) (part_in Any s.node 0 (kids_at s) (kids_in s)) (part_in Any s.node 1 (kids_at s) (kids_in s))
head_in kinds.ClassDef s = both_in Any s.node (part 0 (kids_at s)) (part 2 (kids_at s)) (part_in Any s.node 0 (kids_at s) (kids_in s)) (part_in Any s.node 2 (kids_at s) (kids_in s))
head_in kinds.FunctionDef s =
    both_in Any s.node (part 0 (kids_at s)) (defaults_of (kids_at s)) (part_in Any s.node 0 (kids_at s) (kids_in s))
    (flat_in Any s.node (λ parameter. part 2 (kids_at parameter)) (flat_map kids_at (part 2 (kids_at s))) (grandkids_in s 2) (λ t there. part_in Any t.node 2 (kids_at t) (kids_in t)))
head_in kinds.FuncDef s = none_in _ _
head_in _ s = own_in Any s tt

tops_in : (role : Role) (s : Numbered) → AllIn Any s.node (tops_by role s)
tops_in roles.Entry s = none_in _ _
tops_in roles.Exit s = none_in _ _
tops_in roles.Head s = head_in (kind_of s.node) s
tops_in roles.Init s = part_in Any s.node 0 (kids_at s) (kids_in s)
tops_in roles.Test s = part_in Any s.node 1 (kids_at s) (kids_in s)
tops_in roles.Step s = part_in Any s.node 2 (kids_at s) (kids_in s)

parameters_in : (kind : Kind) (s : Numbered) → AllIn IsId s.node (parameters_by kind (kids_at s))
parameters_in kinds.FunctionDef s =
    flat_in IsId s.node (λ parameter. flat_map id_of (part 0 (kids_at parameter))) (flat_map kids_at (part 2 (kids_at s))) (grandkids_in s 2) (λ t there. flat_in IsId t.node id_of (part 0 (kids_at t)) (part_in Any t.node 0 (kids_at t) (kids_in t)) (λ u among. id_in u))
parameters_in kinds.FuncDef s =
    flat_in IsId s.node (λ parameter. flat_map declared (part 1 (kids_at parameter))) (flat_map kids_at (flat_map signature (part 1 (kids_at s))))
    (flat_in Any s.node kids_at (flat_map signature (part 1 (kids_at s))) (flat_in Any s.node signature (part 1 (kids_at s)) (part_in Any s.node 1 (kids_at s) (kids_in s)) (λ t there. signature_in t)) (λ t there. kids_in t))
    (λ t there. flat_in IsId t.node declared (part 1 (kids_at t)) (part_in Any t.node 1 (kids_at t) (kids_in t)) (λ u among. declared_in u))
parameters_in _ s = none_in _ _

-- what is made of the node with some number
module _ (P : Node → Type 0) (root : Node) (at : ℕ) (f : Option Numbered → List Numbered) (nothing : AllIn P root (f None)) (each : (s : Numbered) → AllIn P s.node (f (Some s))) where
  found_in : AllIn P root (f (node_at (pre_of root) at))
  found_in = by (slice_get (pre_of root) at) refl
    where
      by : (o : Option Node) → slice_get (pre_of root) at ≡ o → AllIn P root (f (node_at (pre_of root) at))
      by None is = (let Q : Option Node → Type 0 = λ o. AllIn P root (f (option_map (λ n. record { at = at; node = n }) o)) in subst Q (sym is) nothing)
      by (Some n) is = λ t there.
          let Q : Option Node → Type 0 = λ o. Among (f (option_map (λ n. record { at = at; node = n }) o)) t in
          let r = each (record { at = at; node = n }) t (subst Q is there) in
          (pre_in root n t.node (got_among (pre_of root) at n is) r.0, r.1)

-- ---- names

-- a node in the tree is a name with that text
pub record Writes (n : Node) (name : List ℕ) : Type 0 where
  pub word : Node
  pub within : Among (pre_of n) word
  pub is : names_at word ≡ 1
  pub text : text_of word ≡ name

writes_in : (n k : Node) (name : List ℕ) → Among (pre_of n) k → Writes k name → Writes n name
writes_in n k name there w = record { word = w.word; within = pre_in n k w.word there w.within; is = w.is; text = w.text }

one_name : (kind : Kind) → is_name kind ≡ true → own_names kind ≡ 1
one_name kinds.Name e = refl
one_name _ e = absurd cc

one_id : (kind : Kind) → is_id kind ≡ true → own_names kind ≡ 1
one_id kinds.Id e = refl
one_id _ e = absurd cc

abbrev AllWrite : Node → List Named → Type 0
AllWrite n names = (t : Named) → Among names t → Writes n t.name

-- names that are targets, and names that are whole targets
targets_write : (n : Node) (ss : List Numbered) → AllIn Any n ss → AllWrite n (names_in ss)
targets_write n ss all t there =
    let (s, among, is) = (among_flat (targets reaches.Whole) ss t).0 there in
    let w = written s.node s.at reaches.Whole t is in
    writes_in n s.node t.name (all s among).0 (record { word = w.word; within = w.within; is = one_name (kind_of w.word) w.is; text = w.text })

whole_write : (n : Node) (ss : List Numbered) → AllIn IsId n ss → AllWrite n (whole_names ss)
whole_write n ss all t there =
    let (s, among, is) = (among_flat (λ s. name_here reaches.Whole s ∷ []) ss t).0 there in
    let r = all s among in
    elim is [ inl e ↦ record { word = s.node; within = r.0; is = one_id (kind_of s.node) r.1; text = ap (λ (z : Named). z.name) e } | inr none ↦ absurd none ]

-- ---- what assigns variables

abbrev AllAssign : Node → List Assigned → Type 0
AllAssign n list = (a : Assigned) → Among list a → are_variables a.manner ≡ true → AllWrite n a.targets

none_assign : (n : Node) → AllAssign n []
none_assign n a none = absurd none

assigned_write : (n : Node) (manner : Manner) (value : Option Node) (names : List Named) → (are_variables manner ≡ true → AllWrite n names) → AllAssign n (assigned manner value names)
assigned_write n manner value [] all a none = absurd none
assigned_write n manner value (name ∷ names) all a (inl e) = let Q : Assigned → Type 0 = λ z. are_variables z.manner ≡ true → AllWrite n z.targets in subst Q e all
assigned_write n manner value (name ∷ names) all a (inr none) = absurd none

chosen_write : (n : Node) (b : Bool) (list : List Assigned) → AllAssign n list → AllAssign n (if b then list else [])
chosen_write n true list all = all
chosen_write n false list all = none_assign _

unless_write : (n : Node) (b : Bool) (list : List Assigned) → AllAssign n list → AllAssign n (if b then [] else list)
unless_write n true list all = none_assign _
unless_write n false list all = all

annotated_write : (n : Node) (value : Option Node) (names : List Named) → AllWrite n names → AllAssign n (annotated value names)
annotated_write n None names all = none_assign _
annotated_write n (Some value) names all = assigned_write n manners.Statement (Some value) names (λ e. all)

variable_write : (n : Node) (value : Option Node) (names : List Named) → AllWrite n names → AllAssign n (variable value names)
variable_write n None names all = assigned_write n manners.Declared None names (λ e. all)
variable_write n (Some value) names all = assigned_write n manners.Statement (Some value) names (λ e. all)

module _ (s : Numbered) where
  part_write : (k : ℕ) → AllWrite s.node (names_in (part k (kids_at s)))
  part_write k = targets_write s.node (part k (kids_at s)) (part_in Any s.node k (kids_at s) (kids_in s))

  ids_write : (k : ℕ) (f : Numbered → List Numbered) → ((t : Numbered) → AllIn IsId t.node (f t)) → AllWrite s.node (whole_names (flat_map f (part k (kids_at s))))
  ids_write k f each = whole_write s.node (flat_map f (part k (kids_at s))) (flat_in IsId s.node f (part k (kids_at s)) (part_in Any s.node k (kids_at s) (kids_in s)) (λ t there. each t))

  unvalued_write : (kind : Kind) (text : List ℕ) → AllAssign s.node (unvalued_by kind text (kids_at s))
  unvalued_write kinds.Unary text = chosen_write s.node (steps text) _ (assigned_write s.node manners.Stepped None _ (λ e. part_write 0))
  unvalued_write kinds.Postfix text = chosen_write s.node (steps text) _ (assigned_write s.node manners.Stepped None _ (λ e. part_write 0))
  unvalued_write kinds.Del text = assigned_write s.node manners.Deleted None _ (λ e. part_write 0)
  unvalued_write kinds.Alias text = assigned_write s.node manners.Imported None _ (λ e. absurd cc)
  unvalued_write kinds.Handler text = assigned_write s.node manners.Caught None _ (λ e. absurd cc)
  unvalued_write kinds.FunctionDef text = assigned_write s.node manners.Defined None _ (λ e. absurd cc)
  unvalued_write kinds.ClassDef text = assigned_write s.node manners.Defined None _ (λ e. absurd cc)
  unvalued_write kinds.FuncDef text = assigned_write s.node manners.Defined None _ (λ e. absurd cc)
  unvalued_write _ text = none_assign _

  own_write : (field : Bool) (kind : Kind) (text : List ℕ) → AllAssign s.node (assigned_by field kind text (kids_at s))
  own_write field kinds.Assign text =
      let last = length (kids_at s) - 1 in
      assigned_write s.node manners.Statement _ _ (λ e. targets_write s.node (take last (kids_at s)) (λ k there. kids_in s k (take_within last (kids_at s) k there)))
  own_write field kinds.AnnAssign text = annotated_write s.node _ _ (part_write 0)
  own_write field kinds.AugAssign text = assigned_write s.node manners.Augmented _ _ (λ e. part_write 0)
  own_write field kinds.AssignE text = assigned_write s.node (operated text) _ _ (λ e. part_write 0)
  own_write field kinds.Walrus text = assigned_write s.node manners.Expression _ _ (λ e. ids_write 0 id_of id_in)
  own_write field kinds.Var text = unless_write s.node field _ (variable_write s.node _ _ (ids_write 0 declared declared_in))
  own_write field kinds.For text = assigned_write s.node manners.Drawn _ _ (λ e. part_write 0)
  own_write field kinds.WithItem text = assigned_write s.node manners.Drawn _ _ (λ e. part_write 1)
  own_write field kind text = unvalued_write kind text

lifted : (n k : Node) (list : List Assigned) → Among (pre_of n) k → AllAssign k list → AllAssign n list
lifted n k list there all a among are t is = writes_in n k t.name there (all a among are t is)

below_write : (field : Bool) (s : Numbered) → AllAssign s.node (assigned_in field s)
below_write field s = by_kids (λ n. (at : ℕ) (b : Bool) → AllAssign n (assigned_in b (record { at = at; node = n }))) (λ n ih at b a among.
    let here : Numbered = record { at = at; node = n } in
    let down = b || is_fields (kind_of n) in
    let P : List Assigned → Type 0 = λ list. Among list a in
    elim ((among_app (flat_map (assigned_in down) (kids_at here)) (assigned_at b here) a).0 (subst P (assigned_in_is b here) among)) [
      | inl kids ↦
          let (k, kid, is) = (among_flat (assigned_in down) (kids_at here) a).0 kids in
          lifted n k.node (assigned_in down k) (kids_in here k kid).0 (ih k.node (siblings_in (at + 1) (kids_of n) k kid) k.at down) a is
      | inr own ↦ own_write here b (kind_of n) (text_of n) a own
    ]) s.node s.at field

holder_write : (root : Node) (role : Role) (at : ℕ) → AllAssign root (holder_at role (node_at (pre_of root) at))
holder_write root role at = by (slice_get (pre_of root) at) refl
  where
    own : (r : Role) (s : Numbered) → AllAssign s.node (holder_at r (Some s))
    own roles.Head s = chosen_write s.node (holds_statements (kind_of s.node)) (assigned_at false s) (own_write s false (kind_of s.node) (text_of s.node))
    own _ s = none_assign _

    by : (o : Option Node) → slice_get (pre_of root) at ≡ o → AllAssign root (holder_at role (node_at (pre_of root) at))
    by None is = λ a there. (let Q : Option Node → Type 0 = λ o. Among (holder_at role (option_map (λ n. record { at = at; node = n }) o)) a in absurd (subst Q is there))
    by (Some n) is = λ a there.
        let Q : Option Node → Type 0 = λ o. Among (holder_at role (option_map (λ n. record { at = at; node = n }) o)) a in
        lifted root n (holder_at role (Some (record { at = at; node = n }))) (got_among (pre_of root) at n is) (own role (record { at = at; node = n })) a (subst Q is there)

-- ---- the names of a unit

module _ (root : Node) where
  all_tops : (p : Point) → AllIn Any root (tops_of (pre_of root) p)
  all_tops p = found_in Any root p.node (tops_at p.role) (none_in Any root) (tops_in p.role)

  assigned_writes : (p : Point) → AllAssign root (assigned_of (pre_of root) p)
  assigned_writes p a among =
      elim ((among_app (flat_map (assigned_in false) (tops_of (pre_of root) p)) (holder_at p.role (node_at (pre_of root) p.node)) a).0 among) [
        | inl below ↦ let (top, there, is) = (among_flat (assigned_in false) (tops_of (pre_of root) p) a).0 below in lifted root top.node (assigned_in false top) (all_tops p top there).0 (below_write false top) a is
        | inr own ↦ holder_write root p.role p.node a own
      ]

  node_writes : (s : Numbered) → Among (pre_of root) s.node → (name : List ℕ) → Among (name_of s) name → Writes root name
  node_writes s there name = by (is_name (kind_of s.node)) refl
    where
      by : (b : Bool) → is_name (kind_of s.node) ≡ b → Among (if b then text_of s.node ∷ [] else []) name → Writes root name
      by true is (inl e) = record { word = s.node; within = there; is = one_name (kind_of s.node) is; text = e }
      by true is (inr none) = absurd none
      by false is none = absurd none

  variable_writes : (a : Assigned) → (are_variables a.manner ≡ true → AllWrite root a.targets) → (name : List ℕ) → Among (variables_of a) name → Writes root name
  variable_writes a all name = by (are_variables a.manner) refl
    where
      by : (b : Bool) → are_variables a.manner ≡ b → Among (if b then map (λ (t : Named). t.name) a.targets else []) name → Writes root name
      by true is there = target a.targets (all is) there
        where
          target : (ts : List Named) → AllWrite root ts → Among (map (λ (t : Named). t.name) ts) name → Writes root name
          target [] each none = absurd none
          target (t ∷ ts) each (inl e) = let Q : List ℕ → Type 0 = Writes root in subst Q e (each t (inl refl))
          target (t ∷ ts) each (inr more) = target ts (λ u among. each u (inr among)) more
      by false is none = absurd none

  point_writes : (p : Point) (name : List ℕ) → Among (point_names (pre_of root) p) name → Writes root name
  point_writes p name among =
      elim ((among_app (flat_map name_of (nodes_of (pre_of root) p)) (flat_map variables_of (assigned_of (pre_of root) p)) name).0 among) [
        | inl node ↦
            let (s, there, is) = (among_flat name_of (nodes_of (pre_of root) p) name).0 node in
            node_writes s (flat_in Any root pre_at (tops_of (pre_of root) p) (all_tops p) (λ t top. nodes_in t) s there).0 name is
        | inr variable ↦
            let (a, there, is) = (among_flat variables_of (assigned_of (pre_of root) p) name).0 variable in
            variable_writes a (assigned_writes p a there) name is
      ]

  parameters_write : (ss : List Numbered) → AllIn IsId root ss → (name : List ℕ) → Among (map (λ (s : Numbered). text_of s.node) ss) name → Writes root name
  parameters_write [] all name none = absurd none
  parameters_write (s ∷ ss) all name (inl e) = let r = all s (inl refl) in record { word = s.node; within = r.0; is = one_id (kind_of s.node) r.1; text = e }
  parameters_write (s ∷ ss) all name (inr more) = parameters_write ss (λ t there. all t (inr there)) name more

  pub unit_writes : (unit : ℕ) (name : List ℕ) → Among (names_of root unit) name → Writes root name
  unit_writes unit name among =
      elim ((among_app (flat_map (point_names (pre_of root)) (points_of root unit)) (map (λ (s : Numbered). text_of s.node) (parameters_of (pre_of root) unit)) name).0 among) [
        | inl point ↦ let (p, there, is) = (among_flat (point_names (pre_of root)) (points_of root unit) name).0 point in point_writes p name is
        | inr own ↦ parameters_write (parameters_of (pre_of root) unit) (found_in IsId root unit parameters_at (none_in IsId root) (λ s. parameters_in (kind_of s.node) s)) name own
      ]

-- ---- counting

abbrev word : ℕ → List ℕ → List (List ℕ)
word zero text = []
word (suc k) text = text ∷ []

abbrev words : List Node → List (List ℕ)
words [] = []
words (n ∷ ns) = word (names_at n) (text_of n) ++ words ns

words_few : (ns : List Node) → length (words ns) ≤ sum_by names_at ns
words_few [] = omega arith
words_few (n ∷ ns) = omega (arith, length-append (word (names_at n) (text_of n)) (words ns), one (names_at n), words_few ns, sum_by-cons names_at n ns)
  where
    one : (k : ℕ) → length (word k (text_of n)) ≤ k
    one zero = omega arith
    one (suc k) = omega arith

words_have : (ns : List Node) (w : Node) → Among ns w → names_at w ≡ 1 → Among (words ns) (text_of w)
words_have [] w none is = absurd none
words_have (n ∷ ns) w (inl e) is =
    let Q : Node → Type 0 = λ z. Among (word (names_at z) (text_of z)) (text_of w) in
    let P : ℕ → Type 0 = λ k. Among (word k (text_of w)) (text_of w) in
    (among_app (word (names_at n) (text_of n)) (words ns) (text_of w)).1 (inl (subst Q (sym e) (subst P (sym is) (inl refl))))
words_have (n ∷ ns) w (inr more) is = (among_app (word (names_at n) (text_of n)) (words ns) (text_of w)).1 (inr (words_have ns w more is))

-- a unit has at most as many names as the file has nodes that are names
pub names_few : (root : Node) (unit : ℕ) → distinct_count bytes_eq (names_of root unit) ≤ sum_by names_at (pre_of root)
names_few root unit = omega (arith, counted_within bytes_eq bytes_eq-Decides (names_of root unit) (words (pre_of root)) has, words_few (pre_of root))
  where
    has : (name : List ℕ) → Among (names_of root unit) name → Among (words (pre_of root)) name
    has name among =
        let w = unit_writes root unit name among in
        let Q : List ℕ → Type 0 = λ text. Among (words (pre_of root)) text in
        subst Q w.text (words_have (pre_of root) w.word w.within w.is)
