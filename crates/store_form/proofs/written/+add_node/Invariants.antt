use Rattle.std.proofs.Common.{◌-◌}
use Rattle.node_tree.specs.Tree.{content_of}
use Rattle.store_form.specs.Form.{node_bytes, IsNodeWithin}
use Rattle.store_form.proofs.Adding.{Added}
use Rattle.store_form.proofs.written.+add_node.Given as goal

abbrev pub decreases-add_node : goal.decreases-add_node
decreases-add_node l = l.levels

abbrev pub invariant-loop-kid : goal.invariant-loop-kid
invariant-loop-kid l = Added (IsNodeWithin (l.levels - 1)) node_bytes content_of l.initial.out l.kid-items l.kid-index l.out
