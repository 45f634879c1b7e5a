use Rattle.std.proofs.Common.{List, [], ◌∷◌, ◌++◌, sym, subst}
use Rattle.file_parts.specs.Parts.{needed_of}
use Rattle.kept_leaves.specs.declared.found.FoundPart.{FoundPart}
use Rattle.kept_leaves.specs.Found.{AreFound}
use Rattle.kept_leaves.proofs.Finding.{none_added, one_added}
use Rattle.kept_leaves.proofs.Meeting.{on_ok_to}
use Rattle.kept_leaves.proofs.found.add_found.Goals as goal

pub returns-then-not-may : goal.returns-then-not-may
returns-then-not-may c pattern pieces parts at told are = none_added pattern pieces parts c.args.into.now c.args.part.now c.args.may c.if-not-may.true told are

pub returns : goal.returns
returns c pattern pieces parts at told are =
    let f : FoundPart = record { part = c.part.inside.part; place = c.args.place } in
    let P : List FoundPart → Type 0 = λ fs. AreFound pattern pieces (parts ++ needed_of pattern (c.args.part.now ∷ [])) fs in
    on_ok_to _ _ c.push.result (λ e. subst P (sym e) (one_added pattern pieces parts c.args.into.now c.args.part.now f c.args.may c.if-not-may.false told c.part.view_is at are)) c.push.ensures.ok
