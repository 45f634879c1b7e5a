-- Nodes in preorder, one tree after the other, and their numbers.
use Rattle.std.specs.Prelude.{◌≡◌, ℕ, zero, suc, ◌+◌, ◌<◌, ◌^◌, List, [], ◌∷◌, length, take, drop, slice_index_or}
use Rattle.node_tree.specs.declared.node.Node.{Node}
use Rattle.node_tree.specs.Numbers.{count_of}
use Rattle.node_tree.specs.Tree.{pre_of, pre_all}

-- each of these nodes is followed by all that is below it, in preorder
abbrev pub IsPreorder : List Node → Type 0
IsPreorder [] = Unit {0}
IsPreorder (n ∷ ns) = (take (count_of n) (n ∷ ns) ≡ pre_of n) × IsPreorder ns

-- the node of that number, where there is one
abbrev pub IsAt : List Node → ℕ → Node → Type 0
IsAt nodes at n = n ≡ slice_index_or nodes at n

-- so many numbers from this one on
abbrev pub counted : ℕ → ℕ → List ℕ
counted at zero = []
counted at (suc left) = at ∷ counted (at + 1) left

-- the numbers of siblings in preorder, where the first of them has this number
abbrev pub starts : ℕ → List Node → List ℕ
starts at [] = []
starts at (n ∷ ns) = at ∷ starts (at + count_of n) ns

-- the trees of these siblings stand there one after the other, the first from that number on
abbrev pub AreAt : List Node → ℕ → List Node → Type 0
AreAt nodes at ns = take (length (pre_all ns)) (drop at nodes) ≡ pre_all ns

-- the node stands there in the pool, with its tree
pub record Stands (nodes : List Node) (at : ℕ) (n : Node) : Type 0 where
  pub lt : at < length nodes
  pub is : IsAt nodes at n
  pub below : take (count_of n) (drop at nodes) ≡ pre_of n
  pub small : length nodes < 2 ^ 32
