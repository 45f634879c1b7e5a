use Rattle.std.proofs.Common.{inl, inr}
use Rattle.file_results.proofs.needing.with_needed_names.Goals as goal

pub returns-then-not-branch-clause-wanted : goal.returns-then-not-branch-clause-wanted
returns-then-not-branch-clause-wanted g c _ =
    inr (λ uses. (let e = c.in_ok-view_needs.ensures.1 uses in let f = c.if-not-branch.true in absurd cc), c.without_names.ensures.known)

pub returns-then-not-is_empty-clause-wanted : goal.returns-then-not-is_empty-clause-wanted
returns-then-not-is_empty-clause-wanted g c own =
    inl (c.in_ok-view_needs.ensures.0 c.if-not-branch.false, elim own [ inl none ↦ (let e = c.is_empty.ensures.1 none in let f = c.if-not-is_empty.true in absurd cc) | inr just ↦ just ])

pub returns-clause-wanted : goal.returns-clause-wanted
returns-clause-wanted g c _ = inl (c.in_ok-view_needs.ensures.0 c.if-not-branch.false, c.in_ok-named.ensures.known)
