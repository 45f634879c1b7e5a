-- The nodes of a tree and their numbers.
use Rattle.std.proofs.Common.{◌≡◌, ℕ, ◌+◌, ◌<◌, List, [], ◌∷◌, length, get_or, refl, ap, ◌∙◌, arith}
use Rattle.node_tree.specs.declared.node.Node.{Node}
use Rattle.node_tree.specs.Tree.{pre_of}
use Rattle.node_tree.proofs.Trees.{pre_is}
use Rattle.node_pool.specs.Preorder.{IsAt}
use Rattle.node_tree.specs.Numbers.{Numbered, numbered, pre_at}
use Rattle.node_match.specs.Relation.{nodes_of}

numbered_nodes : (at : ℕ) (ns : List Node) → nodes_of (numbered at ns) ≡ ns
numbered_nodes at [] = refl
numbered_nodes at (n ∷ ns) = ap (λ (ms : List Node). n ∷ ms) (numbered_nodes (at + 1) ns)

pub pre_nodes : (s : Numbered) → nodes_of (pre_at s) ≡ pre_of s.node
pre_nodes s = numbered_nodes s.at (pre_of s.node)

-- the first node of a tree that was placed alone
pub first_is : (nodes : List Node) (tree n : Node) → nodes ≡ pre_of tree → IsAt nodes 0 n → n ≡ tree
first_is nodes tree n e is = is ∙ ap (λ (ns : List Node). get_or ns 0 n) (e ∙ pre_is tree)

pub some_nodes : (nodes : List Node) (tree : Node) → nodes ≡ pre_of tree → 0 < length nodes
some_nodes nodes tree e = omega (arith, ap length (e ∙ pre_is tree))

pub no_items : {X : Type 0} (xs : List X) → length xs ≡ 0 → xs ≡ []
no_items [] e = refl
no_items (x ∷ xs) e = absurd (omega (arith, e))
