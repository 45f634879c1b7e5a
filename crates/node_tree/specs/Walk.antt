-- What is left of a walk in preorder, by the stack that it keeps.
use Rattle.std.specs.Prelude.{ℕ, ◌-◌, ◌<◌, ◌≤◌, Bool, true, false, Option, None, Some, List, [], ◌∷◌, ◌++◌, length, map}
use Rattle.std.specs.List.{flat_map}
use Rattle.std.specs.Borrow.{Bor}
use Rattle.node_tree.specs.declared.node.Node.{Node}
use Rattle.node_tree.specs.Tree.{depth_of, largest, pre_of, kind_of, kids_of}
use Rattle.node_tree.specs.Units.{nested, outside_body}

-- what references to lists of nodes point to
abbrev pub slices : List (Bor (List Node)) → List (List Node)
slices = map (λ (s : Bor (List Node)). s.now)

-- a node and what is below it, with the bodies of functions or without
abbrev pub walked : Bool → Node → List Node
walked true = pre_of
walked false = nested

-- the kids that are walked after a node
abbrev pub entered : Bool → Node → List Node
entered true n = kids_of n
entered false n = outside_body (kind_of n) (kids_of n)

-- what is left of a walk whose stack has these lists of nodes, the innermost last
abbrev pub rest_of : Bool → List (List Node) → List Node
rest_of bodies [] = []
rest_of bodies (s ∷ ss) = rest_of bodies ss ++ flat_map (walked bodies) s

-- the node that a walk begins with, where it has not begun
abbrev pub opening : Option (Bor Node) → List Node
opening None = []
opening (Some n) = n.now ∷ []

-- each list on the stack has a node, and the nodes below it fit the room above it
abbrev pub HasRoom : ℕ → List (List Node) → Type 0
HasRoom room [] = Unit {0}
HasRoom room (s ∷ ss) = (0 < length s) × (largest (map depth_of s) ≤ room) × HasRoom (room - 1) ss

-- a stack with one more list on it, where that has a node
abbrev pub with_list : List (List Node) → List Node → List (List Node)
with_list ss [] = ss
with_list ss (n ∷ ns) = ss ++ (n ∷ ns) ∷ []
