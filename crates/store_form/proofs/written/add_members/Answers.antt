use Rattle.store_form.specs.Form.{member_bytes, IsMember}
use Rattle.store_form.proofs.Adding.{added_more}
use Rattle.store_form.proofs.written.add_members.Goals as goal

pub loop-member-preserved : goal.loop-member-preserved
loop-member-preserved c =
    added_more IsMember member_bytes (λ m. m) c.args.out.now c.args.members.now c.loop-member.member-index c.loop-member.out c.add_member.new.out c.member-item.result c.loop-member.invariant c.loop-member-test.true c.member-item.is c.in_ok-add_member.ensures.0 c.in_ok-add_member.ensures.1
