use Rattle.node_tree.specs.Numbers.{count_of}
use Rattle.tree_match.proofs.key.+key_of.Given as goal

abbrev pub decreases-key_of : goal.decreases-key_of
decreases-key_of l = count_of l.node.now
