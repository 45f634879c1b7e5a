-- Recursion over trees whose nodes have numbers.
use Rattle.std.specs.Prelude.{ℕ, ◌+◌, List, [], ◌∷◌, map}
use Rattle.node_tree.specs.declared.node.Node.{Node, Node-F, roll-Node, para-Node}
use Rattle.node_tree.specs.Numbers.{Numbered, count_of, kids_at}

-- kids with their numbers, where the first has this one, and what each of them has with its number
abbrev pub numbered_pairs : {X : Type 0} → ℕ → List (Node × (ℕ → X)) → List (Numbered × X)
numbered_pairs at [] = []
numbered_pairs at (kid ∷ kids) = (record { at = at; node = kid.0 }, kid.1 at) ∷ numbered_pairs (at + count_of kid.0) kids

-- the node that has these parts
abbrev pub whole : {X : Type 0} → Node-F (Node × X) → Node
whole x = roll-Node (record { kind = x.kind; text = x.text; kids = map (λ kid. kid.0) x.kids; span = x.span })

-- what a node with a number has, made of it and of its kids with what each of them has
unfoldable pub from_kids : {X : Type 0} → (Numbered → List (Numbered × X) → X) → Numbered → X
from_kids {X} make s = para-Node (ℕ → X) (λ x at. make (record { at = at; node = whole x }) (numbered_pairs (at + 1) x.kids)) s.node s.at

-- the kids of a node, each with what it has
abbrev pub paired : {X : Type 0} → (Numbered → X) → Numbered → List (Numbered × X)
paired has s = map (λ kid. (kid, has kid)) (kids_at s)
