use Rattle.std.proofs.Common.{ℕ, List, ◌&&◌, eqb, subst}
use Rattle.std.proofs.lemmas.Result.{on_ok_weaker}
use Rattle.quieting.specs.Lines.{Adds, id_is}
use Rattle.quieting.proofs.Keys.{quiet_added}
use Rattle.quieting.proofs.line.add_quiet.Goals as goal

pub returns : goal.returns
returns c =
    let q = c.args.quiet.now in
    let mid = c.add_all.new.lines in
    let new = c.add_ids.new.lines in
    let P : List (List ℕ) → Type 0 = λ ids. Adds mid new (λ key. eqb q.line key.0 && id_is ids key.1) in
    on_ok_weaker c.add_ids.result (λ ids. quiet_added q c.args.lines.now mid new c.in_ok-add_all.ensures (subst P c.as_slice.ensures ids)) c.add_ids.ensures
