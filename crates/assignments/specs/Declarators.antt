-- The names that declarators declare, and the parameters of functions.
use Rattle.std.specs.Prelude.{ℕ, Bool, true, false, if◌then◌else◌, List, [], ◌∷◌, map, Option, Some, None}
use Rattle.std.specs.List.{flat_map}
use Rattle.node_tree.specs.declared.node.Node.{Node}
use Rattle.node_tree.specs.declared.kind.Kind.{Kind}
use Rattle.node_tree.specs.declared.kind.Kind.TheVariants as kinds
use Rattle.node_tree.specs.Numbers.{Numbered, kids_at}
use Rattle.node_tree.specs.Tree.{kind_of}
use Rattle.point_nodes.specs.Tops.{part, node_at}
use Rattle.assignments.specs.Trees.{from_kids}

-- a name that is no expression
abbrev pub is_id : Kind → Bool
is_id kinds.Id = true
is_id _ = false

abbrev pub id_of : Numbered → List Numbered
id_of s = if is_id (kind_of s.node) then s ∷ [] else []

-- the declarator within a pointer, an array or a function
abbrev pub within : {X : Type 0} → Kind → List X → List X
within kinds.Ptr kids = part 0 kids
within kinds.ArrayOf kids = part 0 kids
within kinds.FuncOf kids = part 0 kids
within _ kids = []

-- the name that a declarator declares, where each of its kids declares this
abbrev pub declared_by : Numbered → List (Numbered × List Numbered) → List Numbered
declared_by s kids = if is_id (kind_of s.node) then s ∷ [] else flat_map (λ kid. kid.1) (within (kind_of s.node) kids)

-- the name that a declarator declares, under whatever pointers, arrays and functions
abbrev pub declared : Numbered → List Numbered
declared = from_kids declared_by

-- a function that stands directly around a name
abbrev pub is_around_id : Kind → List Numbered → Bool
is_around_id kinds.FuncOf (kid ∷ kids) = is_id (kind_of kid.node)
is_around_id _ kids = false

abbrev pub signature_by : Numbered → List (Numbered × List Numbered) → List Numbered
signature_by s kids =
    let nodes = map (λ kid. kid.0) kids in
    if is_around_id (kind_of s.node) nodes then part 1 nodes else flat_map (λ kid. kid.1) (within (kind_of s.node) kids)

-- the parameter list of the function that stands directly around the name that a declarator declares
abbrev pub signature : Numbered → List Numbered
signature = from_kids signature_by

-- the names of parameters: in Python the first kid of each, in C what the declarator of each declares
abbrev pub python_names : List Numbered → List Numbered
python_names parameters = flat_map (λ parameter. flat_map id_of (part 0 (kids_at parameter))) parameters

abbrev pub c_names : List Numbered → List Numbered
c_names parameters = flat_map (λ parameter. flat_map declared (part 1 (kids_at parameter))) parameters

-- the names of the parameters of a function with these kids; what is no function has none
abbrev pub parameters_by : Kind → List Numbered → List Numbered
parameters_by kinds.FunctionDef kids = python_names (flat_map kids_at (part 2 kids))
parameters_by kinds.FuncDef kids = c_names (flat_map kids_at (flat_map signature (part 1 kids)))
parameters_by _ kids = []

abbrev pub parameters_at : Option Numbered → List Numbered
parameters_at None = []
parameters_at (Some s) = parameters_by (kind_of s.node) (kids_at s)

-- the names of the parameters of a unit of a tree with these nodes in preorder
abbrev pub parameters_of : List Node → ℕ → List Numbered
parameters_of nodes unit = parameters_at (node_at nodes unit)
