use Rattle.std.proofs.Common.{◌≡◌, ◌+◌, false, true, List, refl, sym, ap, ◌∙◌, subst, drop}
use Rattle.std.proofs.lemmas.List.{drop_all}
use Rattle.meta_bind.proofs.Lookups.{opened}
use Rattle.rule_form.specs.declared.rule.Rule.{Rule}
use Rattle.rule_form.specs.declared.rule.Part.{Part}
use Rattle.file_results.specs.Needing.{PartsUse}
use Rattle.file_results.proofs.Somes.{next_none, this_one, none_left}
use Rattle.file_results.proofs.needing.rules_need.Goals as goal

pub loop-runner-preserved : goal.loop-runner-preserved
loop-runner-preserved g c =
    let i = c.loop-runner.runner-index in
    let rs = c.args.running.now in
    let r = c.runner-item.result in
    let L : List Part → Type 0 = PartsUse (g.F.MayHave.may c.args.file.now) c.args.lang in
    let parts = c.as_slice.ensures ∙ ap (λ (x : Rule). x.parts) c.rule.ensures in
    next_none (λ (x : Rule). L x.parts) rs (drop i rs) (drop (i + 1) rs) r c.loop-runner.invariant (opened rs i r c.loop-runner-test.true c.runner-item.is)
    (λ uses. let e = c.in_ok-parts_need.ensures.1 (subst L (sym parts) uses) in let f = c.if-branch.false in absurd cc)

pub returns-then-branch : goal.returns-then-branch
returns-then-branch g c =
    let i = c.loop-runner.runner-index in
    let rs = c.args.running.now in
    let r = c.runner-item.result in
    let L : List Part → Type 0 = PartsUse (g.F.MayHave.may c.args.file.now) c.args.lang in
    let parts = c.as_slice.ensures ∙ ap (λ (x : Rule). x.parts) c.rule.ensures in (
      λ _. this_one (λ (x : Rule). L x.parts) rs (drop i rs) (drop (i + 1) rs) r c.loop-runner.invariant (opened rs i r c.loop-runner-test.true c.runner-item.is) (subst L parts (c.in_ok-parts_need.ensures.0 c.if-branch.true)),
      λ _. refl,
    )

pub returns : goal.returns
returns g c =
    let i = c.loop-runner.runner-index in
    let rs = c.args.running.now in
    let L : List Part → Type 0 = PartsUse (g.F.MayHave.may c.args.file.now) c.args.lang in (
      λ e. absurd (let f : false ≡ true = e in cc),
      λ some. absurd (none_left (λ (x : Rule). L x.parts) rs (drop i rs) c.loop-runner.invariant (drop_all i rs c.loop-runner-test.false) some),
    )
