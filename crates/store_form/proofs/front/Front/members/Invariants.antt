use Rattle.store_form.specs.Form.{member_bytes, IsMember}
use Rattle.store_form.proofs.Items.{Taken}
use Rattle.store_form.proofs.front.Front.members.Given as goal

abbrev pub invariant-loop-i : goal.invariant-loop-i
invariant-loop-i l = Taken IsMember member_bytes l.initial.self.rest.now l.count l._i l.members.items l.self.rest.now
