use Rattle.std.proofs.Common.{◌≡◌, ◌+◌, false, true, refl, drop}
use Rattle.std.proofs.lemmas.List.{drop_all}
use Rattle.meta_bind.proofs.Lookups.{opened}
use Rattle.file_results.specs.Needing.{Uses}
use Rattle.file_results.proofs.Somes.{next_none, this_one, none_left}
use Rattle.file_results.proofs.needing.patterns_need.Goals as goal

pub loop-pattern-preserved : goal.loop-pattern-preserved
loop-pattern-preserved g c =
    let i = c.loop-pattern.pattern-index in
    let ps = c.args.patterns.now in
    let p = c.pattern-item.result in
    next_none (Uses (g.F.MayHave.may c.args.file.now)) ps (drop i ps) (drop (i + 1) ps) p c.loop-pattern.invariant (opened ps i p c.loop-pattern-test.true c.pattern-item.is)
    (λ uses. let e = c.in_ok-pattern_needs.ensures.1 uses in let f = c.if-branch.false in absurd cc)

pub returns-then-branch : goal.returns-then-branch
returns-then-branch g c =
    let i = c.loop-pattern.pattern-index in
    let ps = c.args.patterns.now in
    let p = c.pattern-item.result in (
      λ _. this_one (Uses (g.F.MayHave.may c.args.file.now)) ps (drop i ps) (drop (i + 1) ps) p c.loop-pattern.invariant (opened ps i p c.loop-pattern-test.true c.pattern-item.is) (c.in_ok-pattern_needs.ensures.0 c.if-branch.true),
      λ _. refl,
    )

pub returns : goal.returns
returns g c =
    let i = c.loop-pattern.pattern-index in
    let ps = c.args.patterns.now in (
      λ e. absurd (let f : false ≡ true = e in cc),
      λ some. absurd (none_left (Uses (g.F.MayHave.may c.args.file.now)) ps (drop i ps) c.loop-pattern.invariant (drop_all i ps c.loop-pattern-test.false) some),
    )
