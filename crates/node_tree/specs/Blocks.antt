-- The nodes of a tree that hold statements.
use Rattle.std.specs.Prelude.{Bool, true, false, List, filter}
use Rattle.node_tree.specs.declared.node.Node.{Node}
use Rattle.node_tree.specs.declared.kind.Kind.{Kind}
use Rattle.node_tree.specs.declared.kind.Kind.TheVariants.{Root, Block}
use Rattle.node_tree.specs.Tree.{pre_of, kind_of}

-- a file as a whole, or a block in it
abbrev pub is_block : Kind → Bool
is_block Root = true
is_block Block = true
is_block k = false

-- those of these nodes that are blocks
abbrev pub blocks_in : List Node → List Node
blocks_in = filter (λ (n : Node). is_block (kind_of n))

-- the blocks of a tree in preorder
abbrev pub blocks_of : Node → List Node
blocks_of n = blocks_in (pre_of n)
