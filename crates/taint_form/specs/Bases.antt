-- The name that an expression is, or that holds its object.
use Rattle.std.specs.Prelude.{◌≡◌, ℕ, List, [], ◌∷◌, map, Option, Some, None}
use Rattle.std.specs.Borrow.{Bor}
use Rattle.node_tree.specs.declared.node.Node.{Node}
use Rattle.assignments.specs.declared.assignment.Reach.TheVariants.{Base}
use Rattle.assignments.specs.Seen.{Named}
use Rattle.assignments.specs.Targets.{targets}

abbrev pub node_in : Option (Bor Node) → List Node
node_in None = []
node_in (Some n) = n.now ∷ []

abbrev pub text_in : Option (Bor (List ℕ)) → List (List ℕ)
text_in None = []
text_in (Some text) = text.now ∷ []

-- the name is that which the node is or which holds its object, whatever its number
abbrev pub IsBase : Option (Bor (List ℕ)) → Node → Type 0
IsBase name n = (at : ℕ) → text_in name ≡ map (λ (t : Named). t.name) (targets Base (record { at = at; node = n }))
