-- The nodes that belong to a point: its tops and all that is below them.
use Rattle.std.specs.Prelude.{ℕ, Bool, true, false, List, [], ◌∷◌, ◌++◌, take, drop, slice_get, Option, Some, None}
use Rattle.std.specs.List.{flat_map}
use Rattle.std.specs.Option.{option_map}
use Rattle.node_tree.specs.declared.node.Node.{Node}
use Rattle.node_tree.specs.declared.kind.Kind.{Kind}
use Rattle.node_tree.specs.declared.kind.Kind.TheVariants as kinds
use Rattle.node_tree.specs.Numbers.{Numbered, kids_at, pre_at}
use Rattle.node_tree.specs.Tree.{kind_of}
use Rattle.graph_form.specs.declared.graph.Point.{Point}
use Rattle.graph_form.specs.declared.graph.Role.{Role}
use Rattle.graph_form.specs.declared.graph.Role.TheVariants as roles

-- the node of that number, among nodes in preorder
abbrev pub node_at : List Node → ℕ → Option Numbered
node_at nodes at = option_map (λ n. record { at = at; node = n }) (slice_get nodes at)

-- the item at a place, alone, or nothing where there is none
abbrev pub part : {X : Type 0} → ℕ → List X → List X
part k xs = take 1 (drop k xs)

-- the defaults of a function's parameters
abbrev pub defaults_of : List Numbered → List Numbered
defaults_of kids = flat_map (λ parameter. part 2 (kids_at parameter)) (flat_map kids_at (part 2 kids))

-- what a statement or a handler with these kids does itself, before or between the statements that it holds: a condition, a
-- subject, what is gone through with its target, items, decorators, bases, defaults, a type and a name. One that holds no
-- statements does all that it has
abbrev pub head_by : Kind → Numbered → List Numbered → List Numbered
head_by kinds.If s kids = part 0 kids
head_by kinds.While s kids = part 0 kids
head_by kinds.DoWhile s kids = part 1 kids
head_by kinds.For s kids = part 0 kids ++ part 1 kids
head_by kinds.ForC s kids = []
head_by kinds.Switch s kids = part 0 kids
head_by kinds.With s kids = part 0 kids
head_by kinds.Try s kids = []
head_by kinds.Handler s kids = part 0 kids ++ part 1 kids
head_by kinds.ClassDef s kids = part 0 kids ++ part 2 kids
head_by kinds.FunctionDef s kids = part 0 kids ++ defaults_of kids
head_by kinds.FuncDef s kids = []
head_by _ s kids = s ∷ []

abbrev pub tops_by : Role → Numbered → List Numbered
tops_by roles.Entry s = []
tops_by roles.Exit s = []
tops_by roles.Head s = head_by (kind_of s.node) s (kids_at s)
tops_by roles.Init s = part 0 (kids_at s)
tops_by roles.Test s = part 1 (kids_at s)
tops_by roles.Step s = part 2 (kids_at s)

abbrev pub tops_at : Role → Option Numbered → List Numbered
tops_at role None = []
tops_at role (Some s) = tops_by role s

-- the tops of a point of a tree with these nodes in preorder
abbrev pub tops_of : List Node → Point → List Numbered
tops_of nodes p = tops_at p.role (node_at nodes p.node)

-- the nodes that belong to a point: its tops and all that is below them
abbrev pub nodes_of : List Node → Point → List Numbered
nodes_of nodes p = flat_map pre_at (tops_of nodes p)

-- a statement or a handler that holds statements, and so isn't among its own tops
abbrev pub holds_statements : Kind → Bool
holds_statements kinds.If = true
holds_statements kinds.While = true
holds_statements kinds.DoWhile = true
holds_statements kinds.For = true
holds_statements kinds.ForC = true
holds_statements kinds.Switch = true
holds_statements kinds.With = true
holds_statements kinds.Try = true
holds_statements kinds.Handler = true
holds_statements kinds.ClassDef = true
holds_statements kinds.FunctionDef = true
holds_statements kinds.FuncDef = true
holds_statements _ = false
