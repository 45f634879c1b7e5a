-- The nodes of a unit: a file without the bodies of its functions, or one function without those within it.
use Rattle.std.specs.Prelude.{ℕ, ◌-◌, Bool, true, false, if◌then◌else◌, List, ◌∷◌, length, take, map}
use Rattle.std.specs.List.{flat_map}
use Rattle.node_tree.specs.declared.node.Node.{Node, roll-Node, para-Node}
use Rattle.node_tree.specs.declared.kind.Kind.{Kind}
use Rattle.node_tree.specs.Kinds.{is_function}
use Rattle.node_tree.specs.Tree.{kids_of}

-- of what a node of that kind has for each kid, that which belongs to the unit around it: all but a function's body, the last
abbrev pub outside_body : {X : Type 0} → Kind → List X → List X
outside_body {X} kind kids = if is_function kind then take (length kids - 1) kids else kids

-- a node within a unit, and all below it in preorder but for the bodies of functions
unfoldable pub nested : Node → List Node
nested =
    para-Node (List Node) (λ x.
    roll-Node (record { kind = x.kind; text = x.text; kids = map (λ e. e.0) x.kids; span = x.span }) ∷ flat_map (λ e. e.1) (outside_body x.kind x.kids))

-- the nodes of a unit in preorder: all below it but for the bodies of functions within it
abbrev pub unit_of : Node → List Node
unit_of n = n ∷ flat_map nested (kids_of n)
