use Rattle.std.proofs.Common.{◌∙◌, ℕ, [], refl, sym, subst}
use Rattle.std.specs.Prelude.{Option, MatchOption}
use Rattle.std.proofs.lemmas.List.{append-nil}
use Rattle.kept_leaves.specs.Opened.{IsOut, IsIn}
use Rattle.kept_leaves.proofs.opening.hold.Goals as goal

pub returns-in-Some-clause-extends : goal.returns-in-Some-clause-extends
returns-in-Some-clause-extends c = record { path = refl; more = []; pieces = sym (append-nil _) }

pub returns-in-Some-clause-place : goal.returns-in-Some-clause-place
returns-in-Some-clause-place c =
    let M : Option ℕ → Type 0 = λ o. MatchOption o (IsOut c.args.leaves.now c.args.key.now) (IsIn c.args.leaves.now c.args.key.now) in
    subst M (sym c.known_place.ensures ∙ c.in-Some.is) (c.requires.knows c.args.key.now)

pub hold_new-requires-clause-out : goal.hold_new-requires-clause-out
hold_new-requires-clause-out c =
    let M : Option ℕ → Type 0 = λ o. MatchOption o (IsOut c.args.leaves.now c.args.key.now) (IsIn c.args.leaves.now c.args.key.now) in
    subst M (sym c.known_place.ensures ∙ c.in-None.is) (c.requires.knows c.args.key.now)
