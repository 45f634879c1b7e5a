use Rattle.std.proofs.Common.{List, length, refl, subst}
use Rattle.report_form.specs.declared.edit.Edit.{Edit}
use Rattle.fix_apply.specs.Order.{results_at}
use Rattle.session.specs.Sessions.{EndWithin}
use Rattle.session.proofs.Walks.{they_lie}
use Rattle.session.proofs.fixing.fixed_file.Goals as goal

pub apply-requires : goal.apply-requires
apply-requires c =
    let P : List Edit → Type 0 = λ es. EndWithin (length c.args.bytes.now) es in
    they_lie (length c.args.bytes.now) (results_at c.args.path.now c.args.results.now) c.in_ok-edits.edits c.in_ok-edits.ensures.fit (subst P c.as_slice.ensures (c.if-not-end_within.ensures refl))
