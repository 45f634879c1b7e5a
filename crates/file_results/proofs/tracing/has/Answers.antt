use Rattle.std.proofs.Common.{◌≡◌, true, false, inl, inr, List, sym, ◌∙◌, refl, subst}
use Rattle.std.proofs.lemmas.List.{drop_all}
use Rattle.meta_bind.specs.declared.finding.Finding.{Finding}
use Rattle.meta_bind.proofs.Lookups.{opened}
use Rattle.node_match.specs.Sets.{Among}
use Rattle.node_match.proofs.Sets.{among_at}
use Rattle.file_results.proofs.tracing.has.Goals as goal

pub loop-one-init : goal.loop-one-init
loop-one-init c = λ h. h

pub returns-then-branch : goal.returns-then-branch
returns-then-branch c =
    let xs = c.findings-one-items.result.now in
    let x = c.one-item.result in
    let P : Finding → Type 0 = λ f. Among xs f in
    let Q : List Finding → Type 0 = λ ys. Among ys c.args.finding.now in
    let there = among_at xs c.loop-one.one-index x c.loop-one-test.true c.one-item.is in
    (λ t. subst Q c.findings-one-items.ensures (subst P (c.in_ok-is_same.ensures.0 c.if-branch.true) there), λ h. refl)

pub loop-one-preserved : goal.loop-one-preserved
loop-one-preserved c = λ h.
    let xs = c.findings-one-items.result.now in
    let x = c.one-item.result in
    let Q : List Finding → Type 0 = λ ys. Among ys c.args.finding.now in
    elim (subst Q (opened xs c.loop-one.one-index x c.loop-one-test.true c.one-item.is) (c.loop-one.invariant h)) [
      | inl same ↦ absurd (let e : true ≡ false = sym (c.in_ok-is_same.ensures.1 same) ∙ c.if-branch.false in cc)
      | inr rest ↦ rest
    ]

pub returns : goal.returns
returns c =
    let xs = c.findings-one-items.result.now in
    let i = c.loop-one.one-index in
    let Q : List Finding → Type 0 = λ ys. Among ys c.args.finding.now in
    (λ t. absurd (let e : false ≡ true = t in cc), λ h. absurd (subst Q (drop_all i xs c.loop-one-test.false) (c.loop-one.invariant (subst Q (sym c.findings-one-items.ensures) h))))
