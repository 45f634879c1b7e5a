use Rattle.std.proofs.Common.{refl, subst}
use Rattle.file_open.specs.declared.opened.Opened.{Opened}
use Rattle.file_open.specs.declared.opened.Opened.TheVariants.{Read}
use Rattle.file_open.specs.Opening.{IsOpened}
use Rattle.languages.specs.Trees.{IsTree}
use Rattle.judge_file.proofs.open_file.Goals as goal

pub returns-in_ok-with_names-in-Read-clause-opened : goal.returns-in_ok-with_names-in-Read-clause-opened
returns-in_ok-with_names-in-Read-clause-opened g c =
    let P : Opened → Type 0 = λ x. IsOpened IsTree c.args.lang c.args.bytes x in
    (Read c.in-Read.view, subst P c.in-Read.is c.in_ok-unread.ensures.opened, (c.in_ok-with_names-in-Read.field-0, c.in_ok-with_names-in-Read.ensures, refl))
