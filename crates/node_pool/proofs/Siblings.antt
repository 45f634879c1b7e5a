-- How many siblings there are.
use Rattle.std.proofs.Common.{◌≤◌, ℕ, List, [], ◌∷◌, length, drop, ap, arith, length-append, length-drop}
use Rattle.std.proofs.lemmas.List.{length-take}
use Rattle.std.proofs.lemmas.List.Concat.{flat_map-cons}
use Rattle.node_tree.specs.declared.node.Node.{Node}
use Rattle.node_tree.specs.Tree.{pre_of, pre_all}
use Rattle.node_pool.specs.Preorder.{AreAt}
use Rattle.node_pool.proofs.Placing.{count_is}

siblings_fit : (ns : List Node) → length ns ≤ length (pre_all ns)
siblings_fit [] = omega arith
siblings_fit (n ∷ ns) = omega (arith, siblings_fit ns, count_is n, ap length (flat_map-cons pre_of n ns), length-append (pre_of n) (pre_all ns))

pub are_few : (nodes : List Node) (at : ℕ) (ns : List Node) → AreAt nodes at ns → length ns ≤ length nodes
are_few nodes at ns are = omega (arith, siblings_fit ns, ap length are, length-take (length (pre_all ns)) (drop at nodes), length-drop at nodes)
