use Rattle.node_tree.specs.Numbers.{count_of}
use Rattle.taint_form.proofs.base.+base_of.Given as goal

abbrev pub decreases-base_of : goal.decreases-base_of
decreases-base_of l = count_of l.node.now
