use Rattle.store_form.specs.Form.{bound_bytes, IsBound}
use Rattle.store_form.proofs.Items.{Taken}
use Rattle.store_form.proofs.front.Front.bounds.Given as goal

abbrev pub invariant-loop-i : goal.invariant-loop-i
invariant-loop-i l = Taken IsBound bound_bytes l.initial.self.rest.now l.count l._i l.bounds.items l.self.rest.now
