use Rattle.std.proofs.Common.{◌≡◌, ◌+◌, false, true, refl, drop}
use Rattle.std.proofs.lemmas.List.{drop_all}
use Rattle.meta_bind.proofs.Lookups.{opened}
use Rattle.file_results.specs.Needing.{PartUses}
use Rattle.file_results.proofs.Somes.{next_none, this_one, none_left}
use Rattle.file_results.proofs.needing.parts_need.Goals as goal

pub loop-part-preserved : goal.loop-part-preserved
loop-part-preserved g c =
    let i = c.loop-part.part-index in
    let ps = c.args.parts.now in
    let p = c.part-item.result in
    next_none (PartUses (g.F.MayHave.may c.args.file.now) c.args.lang) ps (drop i ps) (drop (i + 1) ps) p c.loop-part.invariant (opened ps i p c.loop-part-test.true c.part-item.is)
    (λ uses. let e = c.in_ok-part_needs.ensures.1 uses in let f = c.if-branch.false in absurd cc)

pub returns-then-branch : goal.returns-then-branch
returns-then-branch g c =
    let i = c.loop-part.part-index in
    let ps = c.args.parts.now in
    let p = c.part-item.result in (
      λ _. this_one (PartUses (g.F.MayHave.may c.args.file.now) c.args.lang) ps (drop i ps) (drop (i + 1) ps) p c.loop-part.invariant (opened ps i p c.loop-part-test.true c.part-item.is) (c.in_ok-part_needs.ensures.0 c.if-branch.true),
      λ _. refl,
    )

pub returns : goal.returns
returns g c =
    let i = c.loop-part.part-index in
    let ps = c.args.parts.now in (
      λ e. absurd (let f : false ≡ true = e in cc),
      λ some. absurd (none_left (PartUses (g.F.MayHave.may c.args.file.now) c.args.lang) ps (drop i ps) c.loop-part.invariant (drop_all i ps c.loop-part-test.false) some),
    )
