-- What nodes assign, and what points do.
use Rattle.std.specs.Prelude.{ℕ, Bool, true, false, ◌||◌, ◌==◌, List, [], ◌∷◌, ◌++◌, length, ◌-◌, take, drop, if◌then◌else◌, Option, Some, None, codes}
use Rattle.std.specs.List.{flat_map, before_first}
use Rattle.std.specs.Str.{bytes_eq}
use Rattle.node_tree.specs.declared.node.Node.{Node}
use Rattle.node_tree.specs.declared.kind.Kind.{Kind}
use Rattle.node_tree.specs.declared.kind.Kind.TheVariants as kinds
use Rattle.node_tree.specs.Numbers.{Numbered, kids_at}
use Rattle.node_tree.specs.Tree.{kind_of, text_of}
use Rattle.graph_form.specs.declared.graph.Point.{Point}
use Rattle.graph_form.specs.declared.graph.Role.{Role}
use Rattle.graph_form.specs.declared.graph.Role.TheVariants as roles
use Rattle.point_nodes.specs.Tops.{part, node_at, holds_statements, tops_of}
use Rattle.assignments.specs.declared.assignment.Manner.{Manner}
use Rattle.assignments.specs.declared.assignment.Manner.TheVariants as manners
use Rattle.assignments.specs.declared.assignment.Reach.TheVariants as reaches
use Rattle.assignments.specs.Declarators.{id_of, declared}
use Rattle.assignments.specs.Seen.{Named, Assigned}
use Rattle.assignments.specs.Targets.{name_here, targets}
use Rattle.assignments.specs.Trees.{from_kids}

-- a part that isn't left out
abbrev pub present_by : Kind → Node → Option Node
present_by kinds.Absent n = None
present_by _ n = Some n

-- the value that the first of these is, unless it is left out
abbrev pub value_of : List Numbered → Option Node
value_of [] = None
value_of (s ∷ ss) = present_by (kind_of s.node) s.node

-- what assigns no name is no assignment
abbrev pub assigned : Manner → Option Node → List Named → List Assigned
assigned manner value [] = []
assigned manner value (name ∷ names) = record { manner = manner; value = value; targets = name ∷ names } ∷ []

-- the names of targets
abbrev pub names_in : List Numbered → List Named
names_in = flat_map (targets reaches.Whole)

-- names that are whole targets
abbrev pub whole_names : List Numbered → List Named
whole_names = flat_map (λ s. name_here reaches.Whole s ∷ [])

-- an annotation without a value assigns nothing
abbrev pub annotated : Option Node → List Named → List Assigned
annotated None names = []
annotated (Some value) names = assigned manners.Statement (Some value) names

-- a variable with a value, or without one
abbrev pub variable : Option Node → List Named → List Assigned
variable None names = assigned manners.Declared None names
variable (Some value) names = assigned manners.Statement (Some value) names

abbrev pub steps : List ℕ → Bool
steps mark = bytes_eq mark (codes "++") || bytes_eq mark (codes "--")

-- what stands before the first dot
abbrev pub first_part : List ℕ → List ℕ
first_part text = before_first (λ byte. byte == 46) text

-- the name that an import binds without `as`: the first part of the dotted name, and none for `*`
abbrev pub unnamed : Numbered → List Named
unnamed s = if bytes_eq (text_of s.node) (codes "*") then [] else record { at = s.at; name = first_part (text_of s.node); reach = reaches.Whole } ∷ []

-- the name that an import binds: the one behind `as`, or else that of what is imported
abbrev pub imported : List Numbered → List Numbered → List Named
imported [] dotted = flat_map unnamed dotted
imported (name ∷ names) dotted = whole_names (name ∷ names)

-- the name that an alias with these kids binds
abbrev pub alias_names : List Numbered → List Named
alias_names kids = imported (flat_map id_of (part 1 kids)) (flat_map id_of (part 0 kids))

-- what a node of that kind assigns that says no value, with that text and these kids
abbrev pub unvalued_by : Kind → List ℕ → List Numbered → List Assigned
unvalued_by kinds.Unary text kids = if steps text then assigned manners.Stepped None (names_in (part 0 kids)) else []
unvalued_by kinds.Postfix text kids = if steps text then assigned manners.Stepped None (names_in (part 0 kids)) else []
unvalued_by kinds.Del text kids = assigned manners.Deleted None (names_in (part 0 kids))
unvalued_by kinds.Alias text kids = assigned manners.Imported None (alias_names kids)
unvalued_by kinds.Handler text kids = assigned manners.Caught None (whole_names (flat_map id_of (part 1 kids)))
unvalued_by kinds.FunctionDef text kids = assigned manners.Defined None (whole_names (flat_map id_of (part 1 kids)))
unvalued_by kinds.ClassDef text kids = assigned manners.Defined None (whole_names (flat_map id_of (part 1 kids)))
unvalued_by kinds.FuncDef text kids = assigned manners.Defined None (whole_names (flat_map declared (part 1 kids)))
unvalued_by _ text kids = []

-- how an operator of an expression assigns
abbrev pub operated : List ℕ → Manner
operated mark = if bytes_eq mark (codes "=") then manners.Expression else manners.Augmented

-- what a node of that kind assigns, with that text and these kids, where a variable that is a field of a type assigns nothing
abbrev pub assigned_by : Bool → Kind → List ℕ → List Numbered → List Assigned
assigned_by field kinds.Assign text kids = let last = length kids - 1 in assigned manners.Statement (value_of (drop last kids)) (names_in (take last kids))
assigned_by field kinds.AnnAssign text kids = annotated (value_of (part 2 kids)) (names_in (part 0 kids))
assigned_by field kinds.AugAssign text kids = assigned manners.Augmented (value_of (part 1 kids)) (names_in (part 0 kids))
assigned_by field kinds.AssignE text kids = assigned (operated text) (value_of (part 1 kids)) (names_in (part 0 kids))
assigned_by field kinds.Walrus text kids = assigned manners.Expression (value_of (part 1 kids)) (whole_names (flat_map id_of (part 0 kids)))
assigned_by field kinds.Var text kids = if field then [] else variable (value_of (part 1 kids)) (whole_names (flat_map declared (part 0 kids)))
assigned_by field kinds.For text kids = assigned manners.Drawn (value_of (part 1 kids)) (names_in (part 0 kids))
assigned_by field kinds.WithItem text kids = assigned manners.Drawn (value_of (part 0 kids)) (names_in (part 1 kids))
assigned_by field kind text kids = unvalued_by kind text kids

-- whether a node of that kind and text may assign, which depends on its kids
abbrev pub may_assign : Kind → List ℕ → Bool
may_assign kinds.Assign text = true
may_assign kinds.AnnAssign text = true
may_assign kinds.AugAssign text = true
may_assign kinds.AssignE text = true
may_assign kinds.Walrus text = true
may_assign kinds.Var text = true
may_assign kinds.For text = true
may_assign kinds.WithItem text = true
may_assign kinds.Unary text = steps text
may_assign kinds.Postfix text = steps text
may_assign kinds.Del text = true
may_assign kinds.Alias text = true
may_assign kinds.Handler text = true
may_assign kinds.FunctionDef text = true
may_assign kinds.ClassDef text = true
may_assign kinds.FuncDef text = true
may_assign _ text = false

abbrev pub assigned_at : Bool → Numbered → List Assigned
assigned_at field s = assigned_by field (kind_of s.node) (text_of s.node) (kids_at s)

abbrev pub is_fields : Kind → Bool
is_fields kinds.Fields = true
is_fields _ = false

-- what is assigned in a node, kids before nodes, where each of its kids has this
abbrev pub postorder : Numbered → List (Numbered × (Bool → List Assigned)) → Bool → List Assigned
postorder s kids field = flat_map (λ kid. kid.1 (field || is_fields (kind_of s.node))) kids ++ assigned_at field s

-- what is assigned in a node and all that is below it, kids before nodes
abbrev pub assigned_in : Bool → Numbered → List Assigned
assigned_in field s = from_kids postorder s field

-- what a statement that holds others, or a handler, assigns itself: it is none of the tops of its point
abbrev pub holder_by : Role → Numbered → List Assigned
holder_by roles.Head s = if holds_statements (kind_of s.node) then assigned_at false s else []
holder_by _ s = []

abbrev pub holder_at : Role → Option Numbered → List Assigned
holder_at role None = []
holder_at role (Some s) = holder_by role s

-- what a point of a tree with these nodes in preorder assigns, in order: what its tops do, and last what holds them
abbrev pub assigned_of : List Node → Point → List Assigned
assigned_of nodes p = flat_map (assigned_in false) (tops_of nodes p) ++ holder_at p.role (node_at nodes p.node)
