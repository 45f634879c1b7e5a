use Rattle.std.proofs.Common.{◌-◌}
use Rattle.store_form.specs.Form.{node_bytes, IsNodeWithin}
use Rattle.store_form.proofs.Items.{Taken}
use Rattle.store_form.proofs.front.Front.+node.Given as goal

abbrev pub decreases-node : goal.decreases-node
decreases-node l = l.levels

abbrev pub invariant-loop-i : goal.invariant-loop-i
invariant-loop-i l = Taken (IsNodeWithin (l.levels - 1)) node_bytes l.initial.self.rest.now l.head.kids l._i l.kids.items l.self.rest.now
