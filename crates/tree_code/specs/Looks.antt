-- A node as it is looked at: whole, or its content alone.
use Rattle.node_tree.specs.declared.node.Node.{Node}
use Rattle.node_tree.specs.Tree.{content_of}
use Rattle.tree_code.specs.declared.look.Look.{Look}
use Rattle.tree_code.specs.declared.look.Look.TheVariants.{Whole, Content}

abbrev pub seen_by : Look → Node → Node
seen_by Whole n = n
seen_by Content n = content_of n
