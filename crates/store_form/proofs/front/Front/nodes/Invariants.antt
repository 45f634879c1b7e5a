use Rattle.store_form.specs.Form.{node_bytes, IsNode}
use Rattle.store_form.proofs.Items.{Taken}
use Rattle.store_form.proofs.front.Front.nodes.Given as goal

abbrev pub invariant-loop-i : goal.invariant-loop-i
invariant-loop-i l = Taken IsNode node_bytes l.initial.self.rest.now l.count l._i l.nodes.items l.self.rest.now
