-- Nodes with equal parts are equal.
use Rattle.std.proofs.Common.{◌≡◌, ℕ, ◌≤◌, List, length, take, sym, ◌∙◌}
use Rattle.std.proofs.lemmas.List.{take_all}
use Rattle.node_tree.specs.declared.node.Node.{Node, roll-out-Node}
use Rattle.node_tree.specs.Tree.{kind_of, text_of, kids_of, span_of}
use Rattle.node_tree.proofs.Nodes.{node_is}

pub nodes_alike : (n m : Node) → kind_of n ≡ kind_of m → text_of n ≡ text_of m → kids_of n ≡ kids_of m → span_of n ≡ span_of m → n ≡ m
nodes_alike n m kind text kids span = sym (node_is n (kind_of m) (text_of m) (kids_of m) (span_of m) kind text kids span) ∙ roll-out-Node m

-- all kids are alike, once each is seen
pub kids_alike : (n m : Node) (ns ms : List Node) (i : ℕ) → ns ≡ kids_of n → ms ≡ kids_of m → length ns ≤ i → length ms ≤ i → take i ns ≡ take i ms → kids_of n ≡ kids_of m
kids_alike n m ns ms i n-is m-is n-le m-le e = sym n-is ∙ sym (take_all i ns n-le) ∙ e ∙ take_all i ms m-le ∙ m-is
