use Rattle.std.proofs.Common.{inr, refl, subst}
use Rattle.std.specs.Prelude.{Option, MatchOption}
use Rattle.node_tree.specs.declared.view.FileView.{FileView}
use Rattle.import_names.specs.Resolved.{IsResolved}
use Rattle.file_search.proofs.Joins.{resolves_to_itself}
use Rattle.file_search.proofs.whole.beside.Goals as goal

pub returns-in-None : goal.returns-in-None
returns-in-None c =
    let view = c.args.view.now in
    let P : Option FileView → Type 0 = λ o. MatchOption o (IsResolved view view) (IsResolved view) in
    inr (resolves_to_itself view view (subst P c.in-None.is c.requires) refl)
