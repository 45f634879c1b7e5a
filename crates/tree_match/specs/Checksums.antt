-- Numbers made from kinds and texts.
use Rattle.std.specs.Prelude.{ℕ, ◌+◌, ◌*◌, ◌%◌, List, [], ◌∷◌}
use Rattle.tree_code.specs.Sums.{mixed}
use Rattle.node_tree.specs.declared.node.Node.{Node}
use Rattle.node_tree.specs.Order.{kind_place}
use Rattle.node_tree.specs.Tree.{kind_of, text_of, content_kind, pre_of}

-- a number made from the kinds and texts of these nodes, and from one made from what came before them
abbrev pub checksum_all : ℕ → List Node → ℕ
checksum_all sum [] = sum
checksum_all sum (n ∷ ns) = checksum_all (mixed ((sum * 31 + kind_place (content_kind (kind_of n))) % 65536) (text_of n)) ns

-- the checksum of a tree, which nodes of the same content share
abbrev pub checksum : Node → ℕ
checksum n = checksum_all 0 (pre_of n)
