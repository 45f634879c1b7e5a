-- Lists from the end on.
use Rattle.std.proofs.Common.{◌≡◌, List, [], ◌∷◌, ◌++◌, refl, ap, length-append}
use Rattle.std.specs.Prelude.{reverse}
use Rattle.std.proofs.lemmas.List.{append-nil, reverse-append, reverse-reverse}
use Rattle.node_tree.specs.declared.node.Node.{Node}

pub push_more : (xs : List Node) (x : Node) (ys : List Node) → (xs ++ x ∷ []) ++ ys ≡ xs ++ (x ∷ ys)
push_more [] x ys = refl
push_more (z ∷ xs) x ys = ap (λ (ns : List Node). z ∷ ns) (push_more xs x ys)

pub reverse_last : (xs : List Node) (x : Node) → reverse (xs ++ x ∷ []) ≡ x ∷ reverse xs
reverse_last xs x = reverse-append xs (x ∷ [])

pub ruleset order_laws = (append-nil, reverse-reverse, reverse_last, push_more, length-append)
