use Rattle.store_form.specs.Form.{member_bytes, IsMember}
use Rattle.store_form.proofs.Adding.{Added}
use Rattle.store_form.proofs.written.add_members.Given as goal

abbrev pub invariant-loop-member : goal.invariant-loop-member
invariant-loop-member l = Added IsMember member_bytes (λ m. m) l.initial.out l.members l.member-index l.out
