-- The value that a point assigns stands at the point.
use Rattle.std.proofs.Common.{◌≡◌, inl, inr, ℕ, ◌+◌, ◌-◌, Bool, true, false, List, [], ◌∷◌, length, drop, refl, sym, ap, ◌∙◌, subst, Some}
use Rattle.std.specs.Prelude.{Option, None, if◌then◌else◌, ◌||◌}
use Rattle.std.specs.List.{flat_map}
use Rattle.node_tree.specs.declared.node.Node.{Node}
use Rattle.node_tree.specs.declared.kind.Kind.{Kind}
use Rattle.node_tree.specs.declared.kind.Kind.TheVariants as kinds
use Rattle.node_tree.specs.Numbers.{Numbered, kids_at}
use Rattle.node_tree.specs.Tree.{pre_of, kind_of, kids_of, text_of}
use Rattle.graph_form.specs.declared.graph.Point.{Point}
use Rattle.graph_form.specs.declared.graph.Role.{Role}
use Rattle.graph_form.specs.declared.graph.Role.TheVariants as roles
use Rattle.graph_form.specs.Sets.{Among}
use Rattle.graph_form.proofs.Amongs.{among_app}
use Rattle.point_nodes.specs.Tops.{part, node_at, head_by, holds_statements, tops_at, tops_of}
use Rattle.assignments.specs.declared.assignment.Manner.{Manner}
use Rattle.assignments.specs.declared.assignment.Manner.TheVariants as manners
use Rattle.assignments.specs.Assignments.{value_of, present_by, assigned, annotated, variable, unvalued_by, assigned_by, assigned_at, assigned_in, assigned_of, holder_at, is_fields, steps}
use Rattle.assignments.specs.Seen.{Named, Assigned}
use Rattle.assignments.proofs.Postorder.{assigned_in_is}
use Rattle.taint_flow.proofs.Entry.{among_take, among_drop}
use Rattle.taint_plan.proofs.Below.{among_flat, by_kids, pre_here, pre_kid, siblings_in, IsBelow}

-- ---- the value of a node is one of its kids

assigned_value : (manner : Manner) (value : Option Node) (names : List Named) (a : Assigned) → Among (assigned manner value names) a → a.value ≡ value
assigned_value manner value [] a none = absurd none
assigned_value manner value (n ∷ ns) a (inl e) = sym (ap (λ (x : Assigned). x.value) e)
assigned_value manner value (n ∷ ns) a (inr none) = absurd none

annotated_value : (value : Option Node) (names : List Named) (a : Assigned) → Among (annotated value names) a → a.value ≡ value
annotated_value None names a none = absurd none
annotated_value (Some v) names a among = assigned_value manners.Statement (Some v) names a among

variable_value : (value : Option Node) (names : List Named) (a : Assigned) → Among (variable value names) a → a.value ≡ value
variable_value None names a among = assigned_value manners.Declared None names a among
variable_value (Some v) names a among = assigned_value manners.Statement (Some v) names a among

-- nothing, or what is assigned without a value
unless : (b : Bool) (manner : Manner) (names : List Named) (a : Assigned) → Among (if b then assigned manner None names else []) a → a.value ≡ None
unless true manner names a among = assigned_value manner None names a among
unless false manner names a none = absurd none

unvalued : (kind : Kind) (text : List ℕ) (kids : List Numbered) (a : Assigned) → Among (unvalued_by kind text kids) a → a.value ≡ None
unvalued kinds.Unary text kids a among = unless (steps text) _ _ a among
unvalued kinds.Postfix text kids a among = unless (steps text) _ _ a among
unvalued kinds.Del text kids a among = assigned_value _ None _ a among
unvalued kinds.Alias text kids a among = assigned_value _ None _ a among
unvalued kinds.Handler text kids a among = assigned_value _ None _ a among
unvalued kinds.FunctionDef text kids a among = assigned_value _ None _ a among
unvalued kinds.ClassDef text kids a among = assigned_value _ None _ a among
unvalued kinds.FuncDef text kids a among = assigned_value _ None _ a among
unvalued _ text kids a none = absurd none

present_is : (kind : Kind) (n v : Node) → present_by kind n ≡ Some v → n ≡ v
present_is kinds.Absent n v e = absurd cc
present_is _ n v e = let q : Some n ≡ Some v = e in cc

value_there : (xs : List Numbered) (v : Node) → value_of xs ≡ Some v → (kid : Numbered) × Among xs kid × (kid.node ≡ v)
value_there [] v e = absurd cc
value_there (s ∷ ss) v e = (s, inl refl, present_is (kind_of s.node) s.node v e)

in_part : (k : ℕ) (kids : List Numbered) (kid : Numbered) → Among (part k kids) kid → Among kids kid
in_part k kids kid among = among_drop k kids kid (among_take 1 (drop k kids) kid among)

no_value : (a : Assigned) (v : Node) → a.value ≡ None → a.value ≡ Some v → ⊥
no_value a v e f = let q : None ≡ Some v = sym e ∙ f in cc

abbrev KidIs : List Numbered → Node → Type 0
KidIs kids v = (kid : Numbered) × Among kids kid × (kid.node ≡ v)

in_kids : (k : ℕ) (kids : List Numbered) (v : Node) → KidIs (part k kids) v → KidIs kids v
in_kids k kids v (kid, among, e) = (kid, in_part k kids kid among, e)

part_value : (k : ℕ) (kids : List Numbered) (a : Assigned) (v : Node) → a.value ≡ value_of (part k kids) → a.value ≡ Some v → KidIs (part k kids) v
part_value k kids a v is e = value_there (part k kids) v (sym is ∙ e)

value_by : (field : Bool) (kind : Kind) (text : List ℕ) (kids : List Numbered) (a : Assigned) (v : Node) → Among (assigned_by field kind text kids) a → a.value ≡ Some v → KidIs kids v
value_by field kinds.Assign text kids a v among e =
    let (kid, there, same) = value_there (drop (length kids - 1) kids) v (sym (assigned_value _ _ _ a among) ∙ e) in
    (kid, among_drop (length kids - 1) kids kid there, same)
value_by field kinds.AnnAssign text kids a v among e = in_kids 2 kids v (part_value 2 kids a v (annotated_value _ _ a among) e)
value_by field kinds.AugAssign text kids a v among e = in_kids 1 kids v (part_value 1 kids a v (assigned_value _ _ _ a among) e)
value_by field kinds.AssignE text kids a v among e = in_kids 1 kids v (part_value 1 kids a v (assigned_value _ _ _ a among) e)
value_by field kinds.Walrus text kids a v among e = in_kids 1 kids v (part_value 1 kids a v (assigned_value _ _ _ a among) e)
value_by true kinds.Var text kids a v none e = absurd none
value_by false kinds.Var text kids a v among e = in_kids 1 kids v (part_value 1 kids a v (variable_value _ _ a among) e)
value_by field kinds.For text kids a v among e = in_kids 1 kids v (part_value 1 kids a v (assigned_value _ _ _ a among) e)
value_by field kinds.WithItem text kids a v among e = in_kids 0 kids v (part_value 0 kids a v (assigned_value _ _ _ a among) e)
value_by field kind text kids a v among e = absurd (no_value a v (unvalued kind text kids a among) e)

-- what holds statements has its value among the tops of its head
holder_value : (kind : Kind) (s : Numbered) (kids : List Numbered) (text : List ℕ) (a : Assigned) (v : Node) → holds_statements kind ≡ true → Among (assigned_by false kind text kids) a → a.value ≡ Some v → KidIs (head_by kind s kids) v
holder_value kinds.Assign s kids text a v holds among e = absurd cc
holder_value kinds.AnnAssign s kids text a v holds among e = absurd cc
holder_value kinds.AugAssign s kids text a v holds among e = absurd cc
holder_value kinds.AssignE s kids text a v holds among e = absurd cc
holder_value kinds.Walrus s kids text a v holds among e = absurd cc
holder_value kinds.Var s kids text a v holds among e = absurd cc
holder_value kinds.WithItem s kids text a v holds among e = absurd cc
holder_value kinds.For s kids text a v holds among e =
    let (kid, there, same) = part_value 1 kids a v (assigned_value _ _ _ a among) e in
    (kid, (among_app (part 0 kids) (part 1 kids) kid).1 (inr there), same)
holder_value kind s kids text a v holds among e = absurd (no_value a v (unvalued kind text kids a among) e)

-- ---- below a node

assigned_below : (v n : Node) (field : Bool) (at : ℕ) (a : Assigned) → Among (assigned_in field (record { at = at; node = n })) a → a.value ≡ Some v → Among (pre_of n) v
assigned_below v = by_kids (λ n. (field : Bool) (at : ℕ) (a : Assigned) → Among (assigned_in field (record { at = at; node = n })) a → a.value ≡ Some v → Among (pre_of n) v) (λ n kids field at a among e.
    let s : Numbered = record { at = at; node = n } in
    let inner = field || is_fields (kind_of n) in
    let P : List Assigned → Type 0 = λ xs. Among xs a in
    elim ((among_app (flat_map (assigned_in inner) (kids_at s)) (assigned_at field s) a).0 (subst P (assigned_in_is field s) among)) [
      | inl below ↦ (let (kid, there, more) = (among_flat (assigned_in inner) (kids_at s) a).0 below in let in_kids = siblings_in (at + 1) (kids_of n) kid there in pre_kid n kid.node v in_kids (kids kid.node in_kids inner kid.at a more e))
      | inr here ↦ (let (kid, there, same) = value_by field (kind_of n) (text_of n) (kids_at s) a v here e in let Q : Node → Type 0 = λ x. Among (pre_of x) v in pre_kid n kid.node v (siblings_in (at + 1) (kids_of n) kid there) (subst Q (sym same) (pre_here v)))
    ])

-- ---- at a point

-- the value of an assignment of the point is below its tops
pub value_below : (nodes : List Node) (p : Point) (a : Assigned) (v : Node) → Among (assigned_of nodes p) a → a.value ≡ Some v → IsBelow (tops_of nodes p) v
value_below nodes p a v among e = elim ((among_app (flat_map (assigned_in false) (tops_of nodes p)) (holder_at p.role (node_at nodes p.node)) a).0 among) [
  | inl some ↦ (let (top, there, inside) = (among_flat (assigned_in false) (tops_of nodes p) a).0 some in (top, there, assigned_below v top.node false top.at a inside e))
  | inr held ↦ (let (kid, there, same) = by p.role (node_at nodes p.node) held in let P : Node → Type 0 = λ x. Among (pre_of x) v in (kid, there, subst P (sym same) (pre_here v)))
]
  where
    of_holder : (s : Numbered) (b : Bool) → holds_statements (kind_of s.node) ≡ b → Among (if b then assigned_at false s else []) a → KidIs (head_by (kind_of s.node) s (kids_at s)) v
    of_holder s true holds held = holder_value (kind_of s.node) s (kids_at s) (text_of s.node) a v holds held e
    of_holder s false holds none = absurd none

    by : (role : Role) (o : Option Numbered) → Among (holder_at role o) a → KidIs (tops_at role o) v
    by role None none = absurd none
    by roles.Head (Some s) held = of_holder s (holds_statements (kind_of s.node)) refl held
    by roles.Entry (Some s) none = absurd none
    by roles.Exit (Some s) none = absurd none
    by roles.Init (Some s) none = absurd none
    by roles.Test (Some s) none = absurd none
    by roles.Step (Some s) none = absurd none
