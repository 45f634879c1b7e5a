use Rattle.std.proofs.Common.{◌≡◌, ◌↔◌, ◌∙◌, inl, false, true, refl, IsTrue, subst}
use Rattle.std.specs.Prelude.{IfOk}
use Rattle.node_tree.specs.declared.view.FileView.{FileView}
use Rattle.file_match.specs.Words.{MayHave}
use Rattle.file_search.specs.Whole.{MayHaveIn}
use Rattle.file_results.specs.Needing.{RulesUse}
use Rattle.file_results.proofs.Named.{use_more}
use Rattle.file_results.proofs.needing.view_needs.Goals as goal

pub returns-then-not-branch : goal.returns-then-not-branch
returns-then-not-branch c =
    let v = c.args.view.now in (
      λ e. absurd (let f : false ≡ true = e in cc),
      λ uses. let e = c.in_ok-rules_need.ensures.1 (use_more (MayHaveIn v.lang v.tree) (λ _. Unit {0}) (λ p _. tt) v.lang c.args.running.now uses) in let f = c.if-not-branch.true in absurd cc,
    )

pub returns-then-branch : goal.returns-then-branch
returns-then-branch c =
    let v = c.args.view.now in
    let P : FileView → Type 0 = λ w. RulesUse (λ p. MayHave p w.tree) v.lang c.args.running.now in
    let uses = subst P c.in_ok-written.ensures (c.in_ok-rules_need-2.ensures.0 c.if-branch.true) in
    (λ _. use_more (λ p. MayHave p v.tree) (MayHaveIn v.lang v.tree) (λ p may. inl may) v.lang c.args.running.now uses, λ _. refl)

pub returns : goal.returns
returns c =
    let v = c.args.view.now in
    let P : FileView → Type 0 = λ w. IfOk c.rules_need-3.result (λ need. IsTrue need ↔ RulesUse (MayHaveIn w.lang w.tree) v.lang c.args.running.now) in
    subst P (c.in_ok-file.ensures ∙ c.in_ok-written.ensures) c.rules_need-3.ensures
